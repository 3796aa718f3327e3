-- CONJ and MP: the equation that a theorem of the prelude gives, what has to fit, and the answers.
use Rattle.std.proofs.Common.{◌≡◌, List, ◌∷◌, ◌++◌, Bool, true, refl, sym, ◌∙◌, ap, subst, inl, inr, arith}
use Rattle.hol_model.specs.Terms.HolType.{bool_type}
use Rattle.hol_model.specs.Terms.NamedTerm.{NamedTerm, equation}
use Rattle.hol_model.specs.Terms.Nameless.{Nameless, const, app, image}
use Rattle.hol_model.specs.Logic.Theory.{Theory, equality_name, equality_type}
use Rattle.hol_model.specs.Logic.Derivable.{IsSameSet, nameless_equation}
use Rattle.hol_model.specs.Kernel.Theorem.{Theorem}
use Rattle.hol_model.specs.Logic.Logic as nameless
use Rattle.hol_model.specs.Logic.Logic.{binary, and_name, implies_name}
use Rattle.hol_model.specs.Logic.NamedLogic.{conjunction, implication}
use Rattle.hol_model.specs.Derived.DerivedRules.{terms_of_theorem}
use Rattle.hol_model.proofs.Terms.Images.{image-equation}
use Rattle.hol_model.proofs.Terms.Membership.{of_append, IsMember-append_left, IsMember-append_right}
use Rattle.hol_prelude.specs.Prelude.{p, q}
use Rattle.hol_equal.specs.Formulas.{IsFormula}
use Rattle.hol_equal.specs.Room.{IsSized, FitsIf}
use Rattle.hol_bool.specs.PreludeInstances.{LeadsTo, at_p_q}
use Rattle.hol_equal.proofs.Sizes.{sized-more, sized-equation}
use Rattle.hol_bool.proofs.RoomLemmas.{fits-argument, fits-left}
use Rattle.hol_bool.proofs.RuleAnswers.{Roomy, leads-p_q, sized-connected, sized-fits}

-- the equation of CONJ: q <=> p /\ q

abbrev pub conj_equation : Nameless → Nameless → Nameless
conj_equation a b = nameless_equation bool_type b (nameless.conjunction a b)

pub conj-fits-at : (room : Bool) (a b s t : Nameless) → a ≡ s → b ≡ t → FitsIf room (conj_equation s t) → FitsIf room (conj_equation a b)
conj-fits-at room a b s t a_is b_is fits = let path : conj_equation s t ≡ conj_equation a b = λ i. conj_equation (sym a_is i) (sym b_is i) in subst (λ (u : Nameless). FitsIf room u) path fits

pub conj-both-fits : (room : Bool) (a b : Nameless) → FitsIf room (conj_equation a b) → FitsIf room (nameless.conjunction a b)
conj-both-fits room a b fits = fits-argument room (app (const equality_name (equality_type bool_type)) b) (nameless.conjunction a b) fits

pub conj-leads : (theory : Theory) (a b : NamedTerm) (terms : List (NamedTerm × NamedTerm)) → IsFormula theory a → IsFormula theory b
    → terms ≡ at_p_q a b → (room : Bool) → FitsIf room (conj_equation (image a) (image b))
    → LeadsTo theory 25 terms room (image a) (image (equation b (conjunction a b)))
conj-leads theory a b terms one two terms_are room fits =
    let image_is = image-equation b (conjunction a b) bool_type two.typed in
    leads-p_q theory 25 p (equation q (conjunction p q)) a b terms refl refl one two terms_are room (image a) (image (equation b (conjunction a b))) refl image_is
    (fits-left room (const and_name binary) (image a) (image b) (conj-both-fits room (image a) (image b) fits))
    (subst (λ (u : Nameless). FitsIf room u) (sym image_is) fits)

-- the equation of MP: (p ==> q) <=> q

abbrev pub mp_equation : Nameless → Nameless → Nameless
mp_equation a b = nameless_equation bool_type (nameless.implication a b) b

pub mp-implication-fits : (room : Bool) (a b : Nameless) → FitsIf room (mp_equation a b) → FitsIf room (nameless.implication a b)
mp-implication-fits room a b fits = fits-left room (const equality_name (equality_type bool_type)) (nameless.implication a b) b fits

pub mp-leads : (theory : Theory) (whole a b : NamedTerm) (terms : List (NamedTerm × NamedTerm)) → IsFormula theory whole → IsFormula theory a
    → IsFormula theory b → terms ≡ at_p_q a b → image whole ≡ nameless.implication (image a) (image b)
    → (room : Bool) → FitsIf room (mp_equation (image a) (image b)) → LeadsTo theory 26 terms room (image a) (image (equation whole b))
mp-leads theory whole a b terms zero one two terms_are whole_is room fits =
    let image_is : image (equation whole b) ≡ mp_equation (image a) (image b) = image-equation whole b bool_type zero.typed ∙ ap (λ (u : Nameless). nameless_equation bool_type u (image b)) whole_is in
    leads-p_q theory 26 p (equation (implication p q) q) a b terms refl refl one two terms_are room (image a) (image (equation whole b)) refl image_is
    (fits-left room (const implies_name binary) (image a) (image b) (mp-implication-fits room (image a) (image b) fits))
    (subst (λ (u : Nameless). FitsIf room u) (sym image_is) fits)

-- sizes

pub conj-equation-fits : (room : Bool) (a b : Nameless) → (room ≡ true → IsSized 1000 5000 a) → (room ≡ true → IsSized 1000 5000 b) → FitsIf room (conj_equation a b)
conj-equation-fits room a b one two =
    sized-fits 1004 15006 room (conj_equation a b) (omega arith) (omega arith)
    (λ is. sized-equation 1002 5000 10003 bool_type b (nameless.conjunction a b) (omega arith) (omega arith) (sized-more 1000 5000 1002 5000 b (two is) (omega arith) (omega arith))
    (sized-connected 1000 5000 5000 and_name a b (omega arith) (one is) (two is)))

pub mp-equation-fits : (room : Bool) (a b : Nameless) → (room ≡ true → IsSized 1000 5000 (nameless.implication a b)) → (room ≡ true → IsSized 1000 5000 b) → FitsIf room (mp_equation a b)
mp-equation-fits room a b one two =
    sized-fits 1002 10003 room (mp_equation a b) (omega arith) (omega arith)
    (λ is. sized-equation 1000 5000 5000 bool_type (nameless.implication a b) b (omega arith) (omega arith) (one is) (two is))

-- hypotheses put together in the other order
pub swapped-set : (h k : List Nameless) → IsSameSet (k ++ h) (h ++ k)
swapped-set h k = record {
  to = λ x m. elim (of_append x k h m) [ inl a ↦ IsMember-append_right x h k a | inr b ↦ IsMember-append_left x h k b ];
  back = λ x m. elim (of_append x h k m) [ inl a ↦ IsMember-append_right x k h a | inr b ↦ IsMember-append_left x k h b ];
}

-- the conclusions of two theorems leave room
pub first-roomy : (room : Bool) (first second : Theorem) (rest : List Nameless)
    → Roomy room ((terms_of_theorem first ++ terms_of_theorem second) ++ rest) → room ≡ true → IsSized 1000 5000 (image first.conclusion)
first-roomy room first second rest roomy = roomy (image first.conclusion) (inl refl)

pub second-roomy : (room : Bool) (first second : Theorem) (rest : List Nameless)
    → Roomy room ((terms_of_theorem first ++ terms_of_theorem second) ++ rest) → room ≡ true → IsSized 1000 5000 (image second.conclusion)
second-roomy room first second rest roomy =
    roomy (image second.conclusion)
    (IsMember-append_left (image second.conclusion) (terms_of_theorem first ++ terms_of_theorem second) rest
    (IsMember-append_right (image second.conclusion) (terms_of_theorem first) (terms_of_theorem second) (inl refl)))

pub stated-roomy : (room : Bool) (arguments wanted : List Nameless) (conclusion : Nameless) → Roomy room (arguments ++ conclusion ∷ wanted) → room ≡ true → IsSized 1000 5000 conclusion
stated-roomy room arguments wanted conclusion roomy = roomy conclusion (IsMember-append_right conclusion arguments (conclusion ∷ wanted) (inl refl))
