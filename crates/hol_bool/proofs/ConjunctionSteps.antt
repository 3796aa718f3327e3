-- CONJ by equations with `T`: what theorems of the prelude show, hypotheses without `T`, what has to fit, and the names.
use Rattle.std.proofs.Common.{◌≡◌, List, [], ◌∷◌, ◌++◌, map, Bool, true, false, refl, sym, ◌∙◌, ap, subst, inl, inr, Some, Result, Ok, Err, IfOk, arith, append-nil}
use Rattle.std.specs.Prelude.{slice_get}
use Rattle.std.specs.List.{list_any}
use Rattle.std.proofs.lemmas.Slice.Eq.{bytes_eq-Decides}
use Rattle.hol_model.specs.declared.fault.Fault.{Fault}
use Rattle.hol_model.specs.Terms.HolType.{bool_type}
use Rattle.hol_model.specs.Terms.NamedTerm.{NamedTerm, variable, constant, combination, abstraction, equation}
use Rattle.hol_model.specs.Terms.Nameless.{Nameless, const, app, image, same_term}
use Rattle.hol_model.specs.Terms.Measures.{nameless_within_limits}
use Rattle.hol_model.specs.Logic.Derivable.{IsMember, IsSameSet, without, nameless_equation}
use Rattle.hol_model.specs.Logic.Logic as nameless
use Rattle.hol_model.specs.Logic.Logic.{true_name, and_name, unary, binary}
use Rattle.hol_model.specs.Logic.NamedLogic.{true_term, is_true, conjunction}
use Rattle.hol_model.specs.Kernel.Theorem.{Theorem}
use Rattle.hol_model.specs.Kernel.Rules.{dest_equation}
use Rattle.hol_model.proofs.Tests.{first_of_neither, second_of_neither, same_term-Decides}
use Rattle.hol_journal.specs.Journal.{Recorded}
use Rattle.hol_prelude.specs.Prelude.{prelude_theorems, shown}
use Rattle.hol_equal.specs.Room.{FitsIf}
use Rattle.hol_equal.specs.Sequents.{Shows, Derives, DerivesIf, Gives}
use Rattle.hol_equal.proofs.Sizes.{sized-equation, sized-within}
use Rattle.hol_equal.proofs.StepLemmas.{dest-equation}
use Rattle.hol_equal.proofs.CutLemmas.{shows-itself, derives-where, given-derives}
use Rattle.hol_equal.proofs.LemmaLemmas.{derives-same}
use Rattle.hol_bool.proofs.RoomLemmas.{fits-function}
use Rattle.hol_bool.proofs.PreludeSteps.{equation-fits}

-- theorems of the prelude without hypotheses

same_theorem : (a b : Theorem) → Some a ≡ Some b → a ≡ b
same_theorem a b is = cc

-- |- T
pub truth-is : (theorem : Theorem) → slice_get prelude_theorems 8 ≡ Some theorem → shown [] true_term ≡ theorem
truth-is theorem is = same_theorem (shown [] true_term) theorem is

abbrev pub and_term : NamedTerm
and_term = constant and_name binary

-- |- (/\) = (/\)
pub and-is : (theorem : Theorem) → slice_get prelude_theorems 36 ≡ Some theorem → shown [] (equation and_term and_term) ≡ theorem
and-is theorem is = same_theorem (shown [] (equation and_term and_term)) theorem is

-- |- T /\ T
pub truths-is : (theorem : Theorem) → slice_get prelude_theorems 37 ≡ Some theorem → shown [] (conjunction true_term true_term) ≡ theorem
truths-is theorem is = same_theorem (shown [] (conjunction true_term true_term)) theorem is

pub stated-shows : (conclusion : NamedTerm) (theorem : Theorem) → shown [] conclusion ≡ theorem → Shows theorem [] (image conclusion)
stated-shows conclusion theorem is = subst (λ (t : Theorem). Shows t [] (image conclusion)) is (shows-itself (shown [] conclusion))

pub stated-names : (conclusion : NamedTerm) (theorem : Theorem) → shown [] conclusion ≡ theorem → theorem.conclusion ≡ conclusion
stated-names conclusion theorem is = sym (ap (λ (t : Theorem). t.conclusion) is)

-- hypotheses among which there is no constant named `T` are the same without `T`

truth-of : (term : NamedTerm) → image term ≡ nameless.true_term → is_true term ≡ true
truth-of (constant name ty) is = (bytes_eq-Decides name true_name).1 cc
truth-of (variable name ty) is = cc
truth-of (combination f x) is = cc
truth-of (abstraction name ty body) is = cc

other-than_truth : (term : NamedTerm) → is_true term ≡ false → same_term (image term) nameless.true_term ≡ false
other-than_truth term other = go (same_term (image term) nameless.true_term) refl
  where
    go : (test : Bool) → same_term (image term) nameless.true_term ≡ test → test ≡ false
    go true is = let named = truth-of term ((same_term-Decides (image term) nameless.true_term).0 is) in cc
    go false is = refl

others-than_truth : (hypotheses : List NamedTerm) → list_any is_true hypotheses ≡ false → (x : Nameless) → IsMember x (map image hypotheses) → same_term x nameless.true_term ≡ false
others-than_truth [] absent x m = absurd m
others-than_truth (t ∷ hypotheses) absent x (inl e) =
    ap (λ u. same_term u nameless.true_term) e ∙ other-than_truth t (first_of_neither (is_true t) (list_any is_true hypotheses) absent)
others-than_truth (t ∷ hypotheses) absent x (inr m) = others-than_truth hypotheses (second_of_neither (is_true t) (list_any is_true hypotheses) absent) x m

without-none : (h : List Nameless) → ((x : Nameless) → IsMember x h → same_term x nameless.true_term ≡ false) → without nameless.true_term h ≡ h
without-none [] others = refl
without-none (t ∷ h) others = rw (others t (inl refl)) (ap (λ l. t ∷ l) (without-none h (λ x m. others x (inr m))))

without-truth : (hypotheses : List NamedTerm) (h : List Nameless) → list_any is_true hypotheses ≡ false → IsSameSet h (map image hypotheses) → without nameless.true_term h ≡ h
without-truth hypotheses h absent same = without-none h (λ x m. others-than_truth hypotheses absent x (same.to x m))

-- what has to fit does, since the conjunction does

truth-fits : (room : Bool) → FitsIf room nameless.true_term
truth-fits room is = record { height = omega arith; nodes = omega arith; types = refl }

truths-fit : (room : Bool) → FitsIf room (nameless.conjunction nameless.true_term nameless.true_term)
truths-fit room is = record { height = omega arith; nodes = omega arith; types = refl }

and-truth-fits : (room : Bool) → FitsIf room (app (const and_name binary) nameless.true_term)
and-truth-fits room is = record { height = omega arith; nodes = omega arith; types = refl }

truth-within : (room : Bool) (p : Nameless) → FitsIf room p → room ≡ true → nameless_within_limits (nameless_equation bool_type nameless.true_term p) ≡ true
truth-within room p fits is = equation-fits room nameless.true_term p (truth-fits room) fits is

pub functions-within : (room : Bool) (p q : Nameless) → FitsIf room (nameless.conjunction p q) → room ≡ true
    → nameless_within_limits (nameless_equation unary (app (const and_name binary) nameless.true_term) (app (const and_name binary) p)) ≡ true
functions-within room p q fits is =
    let left = app (const and_name binary) nameless.true_term in
    let right = app (const and_name binary) p in
    sized-within 1902 1800003 (nameless_equation unary left right)
    (sized-equation 1900 900000 900000 unary left right (omega arith) (omega arith) (and-truth-fits room is) (fits-function room right q fits is)) (omega arith) (omega arith)

pub conjunctions-within : (room : Bool) (p q : Nameless) → FitsIf room (nameless.conjunction p q) → room ≡ true
    → nameless_within_limits (nameless_equation bool_type (nameless.conjunction nameless.true_term nameless.true_term) (nameless.conjunction p q)) ≡ true
conjunctions-within room p q fits is = equation-fits room (nameless.conjunction nameless.true_term nameless.true_term) (nameless.conjunction p q) (truths-fit room) fits is

-- sequents

pub truth-derives : (room : Bool) (result : Result Recorded Fault) (hypotheses : List NamedTerm) (h : List Nameless) (p : Nameless)
    → list_any is_true hypotheses ≡ false → IsSameSet h (map image hypotheses) → FitsIf room p
    → Derives result (without p [] ++ without nameless.true_term h) (nameless_equation bool_type nameless.true_term p)
    → DerivesIf room result h (nameless_equation bool_type nameless.true_term p)
truth-derives room result hypotheses h p absent same fits derives =
    let whole = nameless_equation bool_type nameless.true_term p in
    derives-where (nameless_within_limits whole) room result h whole (truth-within room p fits)
    (derives-same (nameless_within_limits whole) result (without nameless.true_term h) h whole (without-truth hypotheses h absent same) derives)

pub truths-derive : (room : Bool) (result : Result Recorded Fault) (h : List Nameless) (c : Nameless) → Gives result (h ++ []) c → DerivesIf room result h c
truths-derive room result h c gives = given-derives room result h c (subst (λ (l : List Nameless). Gives result l c) (append-nil h) gives)

-- MK_COMB's very answer
pub applied-names : (result : Result Recorded Fault) (first second f g a b : NamedTerm) → first ≡ equation f g → second ≡ equation a b
    → IfOk result (λ made. (functions arguments : NamedTerm × NamedTerm) → dest_equation first ≡ Some functions → dest_equation second ≡ Some arguments
    → made.theorem.conclusion ≡ equation (combination functions.0 arguments.0) (combination functions.1 arguments.1))
    → IfOk result (λ made. made.theorem.conclusion ≡ equation (combination f a) (combination g b))
applied-names (Ok made) first second f g a b one two names = names (f, g) (a, b) (ap dest_equation one ∙ dest-equation f g) (ap dest_equation two ∙ dest-equation a b)
applied-names (Err fault) first second f g a b one two names = tt
