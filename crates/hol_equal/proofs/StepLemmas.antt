-- What the kernel's rules come to by image.
use Rattle.std.proofs.Common.{◌≡◌, ℕ, List, [], ◌∷◌, ◌++◌, map, Bool, true, false, ◌&&◌, not, if◌then◌else◌, refl, sym, ◌∙◌, ap, subst, inl, inr}
use Rattle.std.proofs.Common.{Option, Some, None, Result, Ok, Err, IfOk}
use Rattle.std.specs.Result.{IsErrAnd}
use Rattle.std.specs.Option.{is_some}
use Rattle.std.specs.List.{list_all}
use Rattle.std.proofs.lemmas.Slice.Eq.{bytes_eq-Decides}
use Rattle.hol_model.specs.declared.fault.Fault.{Fault}
use Rattle.hol_model.specs.declared.fault.Fault.TheVariants.{TooLarge, NotAlpha, NotEquation, TypeMismatch, UnknownType, FreeInHypothesis}
use Rattle.hol_model.specs.Terms.HolType.{HolType, bool_type, function_type}
use Rattle.hol_model.specs.Terms.NamedTerm.{NamedTerm, variable, constant, combination, abstraction, type_of, dest_variable, is_free, equality, equation, is_within_limits}
use Rattle.hol_model.specs.Terms.Nameless.{Nameless, free, app, lam, HasType, image, same_term}
use Rattle.hol_model.specs.Terms.Measures.{nameless_within_limits}
use Rattle.hol_model.specs.Logic.Theory.{Theory, IsKnown, IsKnownType, equality_name}
use Rattle.hol_model.specs.Logic.Derivable.{IsMember, IsSameSet, without, nameless_equation, NotFreeInAny}
use Rattle.hol_model.specs.Kernel.Theorem.{Theorem, IsTheorem, are_alpha_equivalent, with_hypotheses, without_hypothesis}
use Rattle.hol_model.specs.Kernel.Outcome.{Answers, AnswersSuch, unless, given, refused}
use Rattle.hol_model.specs.Kernel.Instantiation.{IsChanged, all_fit, or_too_large}
use Rattle.hol_model.specs.Kernel.Rules.{first_unknown, is_formula, dest_equation, dest_trivial_redex, is_free_in_hypotheses, concluded, refl_outcome}
use Rattle.hol_model.specs.Kernel.Rules.{assume_outcome, trans_outcome, eq_mp_outcome, mk_comb_outcome, abs_outcome, deduct_antisym_outcome}
use Rattle.hol_model.specs.Kernel.Rules.{beta_outcome}
use Rattle.hol_model.specs.Logic.KnownTerm.{knows_type, knows_types, knows_constants, has_instances, is_known}
use Rattle.hol_model.specs.Terms.Substitution.{close}
use Rattle.hol_model.proofs.Terms.NamedTests.{is_known-Decides}
use Rattle.hol_model.proofs.Terms.TypeTests.{knows_type-Decides}
use Rattle.hol_model.proofs.Terms.HolTypeEq.{type_eq-self}
use Rattle.hol_model.proofs.Logic.Known as known
use Rattle.hol_model.proofs.Tests.{first_of_both, second_of_both, both, same_term-Decides, same_variable-self}
use Rattle.hol_model.proofs.Terms.Images.{image-typed, image-type, image-equation, image-abstraction, occurs_free-image}
use Rattle.hol_model.proofs.Terms.Measures.{past_limits-image}
use Rattle.hol_model.proofs.Terms.Membership.{of_append, of_map, IsMember-map, IsMember-append_left, IsMember-append_right}
use Rattle.hol_kernel.specs.KnownFormula.{IsKnownFormula}
use Rattle.hol_kernel.specs.Fits.{TransFits, EqMpFits}
use Rattle.hol_kernel.proofs.HypothesesLemmas.{with_hypotheses-same_set, image-without_hypothesis}
use Rattle.hol_kernel.proofs.RuleLemmas.{mk_comb-concluded, abs-concluded}
use Rattle.hol_journal.specs.Journal.{Journal, Recorded, IsMade, theorem_in}
use Rattle.hol_journal.proofs.GrowthLemmas.{journals-grow}
use Rattle.hol_journal.proofs.Showing.{unless-is, refused-is, concluded-is, ok_is, neither, sides_of, formula_of}
use Rattle.hol_model.specs.Derived.DerivedRules.{HasLeftSide}
use Rattle.hol_equal.specs.Formulas.{IsFormula}
use Rattle.hol_journal.specs.Growth.{Continues}
use Rattle.hol_equal.specs.Sequents.{Shows, Derives, DerivesInstance, Gives, IsPast}

-- the conclusion, where it is an equation by image

pub record HasSides (conclusion : NamedTerm) (ty : HolType) (l r : Nameless) : Type 0 where
  pub left : NamedTerm
  pub right : NamedTerm
  pub dest : dest_equation conclusion ≡ Some (left, right)
  pub left_image : image left ≡ l
  pub right_image : image right ≡ r

has_sides : (conclusion : NamedTerm) (ty : HolType) (l r : Nameless) → image conclusion ≡ nameless_equation ty l r → HasSides conclusion ty l r
has_sides (combination (combination (constant name s) left) right) ty l r is =
    let named : name ≡ equality_name = cc in
    record { left = left; right = right; dest = rw ((bytes_eq-Decides name equality_name).1 named) refl; left_image = cc; right_image = cc }
has_sides (combination (combination (variable name s) left) right) ty l r is = cc
has_sides (combination (combination (combination f x) left) right) ty l r is = cc
has_sides (combination (combination (abstraction name s body) left) right) ty l r is = cc
has_sides (combination (constant name s) right) ty l r is = cc
has_sides (combination (variable name s) right) ty l r is = cc
has_sides (combination (abstraction name s body) right) ty l r is = cc
has_sides (constant name s) ty l r is = cc
has_sides (variable name s) ty l r is = cc
has_sides (abstraction name s body) ty l r is = cc

-- the sides of a theorem's equation, and their types
record IsShownEquation (conclusion : NamedTerm) (ty : HolType) (l r : Nameless) : Type 0 where
  left : NamedTerm
  right : NamedTerm
  dest : dest_equation conclusion ≡ Some (left, right)
  left_image : image left ≡ l
  right_image : image right ≡ r
  left_typed : type_of left ≡ Some ty
  right_typed : type_of right ≡ Some ty

shown_sides : (theorem : Theorem) → IsTheorem theorem → (ty : HolType) (l r : Nameless) → image theorem.conclusion ≡ nameless_equation ty l r → IsShownEquation theorem.conclusion ty l r
shown_sides theorem is ty l r shown =
    let parts = has_sides theorem.conclusion ty l r shown in
    let e = sides_of theorem is parts.left parts.right parts.dest in
    let same : nameless_equation e.ty (image parts.left) (image parts.right) ≡ nameless_equation ty l r = sym e.image_is ∙ shown in
    let one : e.ty ≡ ty = cc in
    record {
      left = parts.left;
      right = parts.right;
      dest = parts.dest;
      left_image = parts.left_image;
      right_image = parts.right_image;
      left_typed = e.left_typed ∙ ap Some one;
      right_typed = e.right_typed ∙ ap Some one;
    }

-- sequents

pub same_sets : {A : Type 0} (h k l : List A) → IsSameSet h k → IsSameSet k l → IsSameSet h l
same_sets h k l one two = record { to = λ x m. two.to x (one.to x m); back = λ x m. one.back x (two.back x m) }

joined : (h k xs ys : List Nameless) → IsSameSet h xs → IsSameSet k ys → IsSameSet (h ++ k) (xs ++ ys)
joined h k xs ys one two = record {
  to = λ x m. elim (of_append x h k m) [ inl t ↦ IsMember-append_left x xs ys (one.to x t) | inr t ↦ IsMember-append_right x xs ys (two.to x t) ];
  back = λ x m. elim (of_append x xs ys m) [ inl t ↦ IsMember-append_left x h k (one.back x t) | inr t ↦ IsMember-append_right x h k (two.back x t) ];
}

-- the hypotheses of two theorems put together
merged : (h k : List Nameless) (xs ys : List NamedTerm) → IsSameSet h (map image xs) → IsSameSet k (map image ys) → IsSameSet (h ++ k) (map image (with_hypotheses xs ys))
merged h k xs ys one two = same_sets (h ++ k) (map image xs ++ map image ys) (map image (with_hypotheses xs ys)) (joined h k (map image xs) (map image ys) one two) (with_hypotheses-same_set xs ys)

-- what is concluded, where nothing but the limits can refuse
concluded-derives : (result : Result Recorded Fault) (theory : Theory) (hypotheses : List NamedTerm) (conclusion : NamedTerm) (h : List Nameless) (c : Nameless)
    → type_of conclusion ≡ Some bool_type → IsSameSet h (map image hypotheses) → image conclusion ≡ c → Answers (theorem_in result) (concluded theory hypotheses conclusion)
    → Derives result h c
concluded-derives (Ok made) theory hypotheses conclusion h c typed same is answers =
    let made_is = concluded-is theory hypotheses conclusion made.theorem answers in
    record { same_set = subst (λ (t : Theorem). IsSameSet h (map image t.hypotheses)) (sym made_is) same; concludes = ap (λ (t : Theorem). image t.conclusion) made_is ∙ is }
concluded-derives (Err fault) theory hypotheses conclusion h c typed same is (inl memory) = inl memory
concluded-derives (Err fault) theory hypotheses conclusion h c typed same is (inr refusal) = go (is_within_limits conclusion) refl refusal
  where
    go : (test : Bool) → is_within_limits conclusion ≡ test → unless {A = Theorem} test TooLarge (Ok (record { theory = theory; hypotheses = hypotheses; conclusion = conclusion })) ≡ Err fault
        → IsPast fault (nameless_within_limits c)
    go true tested refusal = cc
    go false tested refusal = let large : TooLarge ≡ fault = cc in inr (sym large, ap nameless_within_limits (sym is) ∙ past_limits-image conclusion bool_type typed tested)

pub equation-typed : (a b : NamedTerm) (ty : HolType) → type_of a ≡ Some ty → type_of b ≡ Some ty → type_of (equation a b) ≡ Some bool_type
equation-typed a b ty typed_a typed_b =
    image-type (equation a b) bool_type
    (subst (λ (t : Nameless). HasType [] t bool_type) (sym (image-equation a b ty typed_a))
    (ty, (ty, refl, image-typed a ty typed_a), image-typed b ty typed_b))

-- the members that are left
pub of_without : (x p : Nameless) (terms : List Nameless) → IsMember x (without p terms) → IsMember x terms
of_without x p terms m = known.of_without x p terms m

pub not_without : (x p : Nameless) (terms : List Nameless) → IsMember x (without p terms) → same_term x p ≡ false
not_without x p [] m = absurd m
not_without x p (t ∷ terms) m = go (same_term t p) refl m (not_without x p terms)
  where
    go : (test : Bool) → same_term t p ≡ test → IsMember x (if not test then t ∷ without p terms else without p terms) → (IsMember x (without p terms) → same_term x p ≡ false) → same_term x p ≡ false
    go true is m deeper = deeper m
    go false is (inl e) deeper = ap (λ u. same_term u p) e ∙ is
    go false is (inr m) deeper = deeper m

pub in_without : (x p : Nameless) (terms : List Nameless) → IsMember x terms → same_term x p ≡ false → IsMember x (without p terms)
in_without x p [] m other = absurd m
in_without x p (t ∷ terms) (inl e) other = let there : same_term t p ≡ false = ap (λ u. same_term u p) (sym e) ∙ other in rw there (inl e)
in_without x p (t ∷ terms) (inr m) other = go (same_term t p) (in_without x p terms m other)
  where
    go : (test : Bool) → IsMember x (without p terms) → IsMember x (if not test then t ∷ without p terms else without p terms)
    go true m = m
    go false m = inr m

-- what is answered, where nothing can refuse
ok-gives : (result : Result Recorded Fault) (theorem : Theorem) (h : List Nameless) (c : Nameless) → Shows theorem h c → (outcome : Result Theorem Fault) → outcome ≡ Ok theorem
    → Answers (theorem_in result) outcome → Gives result h c
ok-gives (Ok made) theorem h c shown outcome is answers = subst (λ (t : Theorem). Shows t h c) (ok_is theorem made.theorem (sym is ∙ answers)) shown
ok-gives (Err fault) theorem h c shown outcome is (inl memory) = memory
ok-gives (Err fault) theorem h c shown outcome is (inr refusal) = cc

-- an equation that is concluded from two theorems
equation-derives : (result : Result Recorded Fault) (theory : Theory) (hypotheses : List NamedTerm) (a b : NamedTerm) (ty : HolType) (h : List Nameless) (l r : Nameless)
    → type_of a ≡ Some ty → type_of b ≡ Some ty → image a ≡ l → image b ≡ r → IsSameSet h (map image hypotheses) → (outcome : Result Theorem Fault)
    → outcome ≡ concluded theory hypotheses (equation a b) → Answers (theorem_in result) outcome → Derives result h (nameless_equation ty l r)
equation-derives result theory hypotheses a b ty h l r typed_a typed_b a_is b_is same outcome is answers =
    concluded-derives result theory hypotheses (equation a b) h (nameless_equation ty l r) (equation-typed a b ty typed_a typed_b) same
    (image-equation a b ty typed_a ∙ (λ i. nameless_equation ty (a_is i) (b_is i)))
    (subst (λ (o : Result Theorem Fault). Answers (theorem_in result) o) is answers)

-- a term whose image is known is not refused
pub no_unknown : (theory : Theory) (term : NamedTerm) (ty : HolType) → IsKnown theory (image term) ty → first_unknown theory term ≡ None
no_unknown theory term ty known = go (knows_types theory term) (knows_constants theory term) (has_instances theory term) ((is_known-Decides theory term ty (image-type term ty known.typed)).1 known)
  where
    go : (types constants instances : Bool) → (types && constants && instances) ≡ true
        → (if not types then Some Fault.UnknownType else (if not constants then Some Fault.UnknownConst else (if not instances then Some Fault.NotInstance else None))) ≡ None
    go true true true known = refl
    go true true false known = cc
    go true false instances known = cc
    go false constants instances known = cc

-- and passes the test of known terms
pub is_known-where : (theory : Theory) (term : NamedTerm) (ty : HolType) → IsKnown theory (image term) ty → is_known theory term ≡ true
is_known-where theory term ty known = (is_known-Decides theory term ty (image-type term ty known.typed)).1 known

pub formula-known : (theory : Theory) (term : NamedTerm) → IsFormula theory term → IsKnownFormula theory term
formula-known theory term formula = record { known = is_known-where theory term bool_type formula.known; typed = formula.typed }

no_member : {A : Type 0} → IsSameSet {A = A} [] []
no_member = record { to = λ x m. m; back = λ x m. m }

-- REFL

pub refl-derives : (result : Result Recorded Fault) (theory : Theory) (term : NamedTerm) → Answers (theorem_in result) (refl_outcome theory term)
    → (ty : HolType) → IsKnown theory (image term) ty → Derives result [] (nameless_equation ty (image term) (image term))
refl-derives result theory term answers ty known =
    let typed = image-type term ty known.typed in
    let none = no_unknown theory term ty known in
    equation-derives result theory [] term term ty [] (image term) (image term) typed typed refl refl no_member (refl_outcome theory term) (rw none refl) answers

-- ASSUME

pub assume-gives : (result : Result Recorded Fault) (theory : Theory) (term : NamedTerm) → Answers (theorem_in result) (assume_outcome theory term)
    → IsKnown theory (image term) bool_type → Gives result (image term ∷ []) (image term)
assume-gives result theory term answers known =
    let formula : is_formula term ≡ true = rw (image-type term bool_type known.typed) refl in
    let none = no_unknown theory term bool_type known in
    ok-gives result (record { theory = theory; hypotheses = term ∷ []; conclusion = term }) (image term ∷ []) (image term)
    (record { same_set = record { to = λ x m. m; back = λ x m. m }; concludes = refl }) (assume_outcome theory term) (rw (formula, none) refl) answers

-- TRANS

pub trans-derives : (result : Result Recorded Fault) (theory : Theory) (first second : Theorem) → IsTheorem first → IsTheorem second → Answers (theorem_in result) (trans_outcome theory first second)
    → (h k : List Nameless) (ty : HolType) (l m r : Nameless) → Shows first h (nameless_equation ty l m) → Shows second k (nameless_equation ty m r)
    → Derives result (h ++ k) (nameless_equation ty l r)
trans-derives result theory first second is_first is_second answers h k ty l m r shown_first shown_second =
    let e = shown_sides first is_first ty l m shown_first.concludes in
    let f = shown_sides second is_second ty m r shown_second.concludes in
    let meet : are_alpha_equivalent e.right f.left ≡ true = (same_term-Decides (image e.right) (image f.left)).1 (e.right_image ∙ sym f.left_image) in
    equation-derives result theory (with_hypotheses first.hypotheses second.hypotheses) e.left f.right ty (h ++ k) l r e.left_typed f.right_typed e.left_image f.right_image
    (merged h k first.hypotheses second.hypotheses shown_first.same_set shown_second.same_set)
    (trans_outcome theory first second) (rw (e.dest, f.dest, meet) refl) answers

-- the sides of an equation
pub dest-equation : (a b : NamedTerm) → dest_equation (equation a b) ≡ Some (a, b)
dest-equation a b = go (type_of a)
  where
    go : (ty : Option HolType) → dest_equation (combination (combination (equality ty) a) b) ≡ Some (a, b)
    go None = refl
    go (Some ty) = refl

pub trans-names : (result : Result Recorded Fault) (theory : Theory) (first second : Theorem) → Answers (theorem_in result) (trans_outcome theory first second)
    → IfOk result (λ made. (left : NamedTerm) → HasLeftSide left first.conclusion → HasLeftSide left made.theorem.conclusion)
trans-names (Ok made) theory first second answers = λ left has. go left has.right (dest_equation second.conclusion) (rw has.sides at answers)
  where
    go : (left right : NamedTerm) (found : Option (NamedTerm × NamedTerm))
        → given found NotEquation (λ sides.
        unless (are_alpha_equivalent right sides.0) NotAlpha
        (concluded theory (with_hypotheses first.hypotheses second.hypotheses) (equation left sides.1))) ≡ Ok made.theorem
        → HasLeftSide left made.theorem.conclusion
    go left right None is = cc
    go left right (Some sides) is =
        let next = concluded theory (with_hypotheses first.hypotheses second.hypotheses) (equation left sides.1) in
        let made_is = concluded-is theory (with_hypotheses first.hypotheses second.hypotheses) (equation left sides.1) made.theorem
        (unless-is (are_alpha_equivalent right sides.0) NotAlpha next made.theorem is).1 in
        subst (λ (c : NamedTerm). HasLeftSide left c) (sym (ap (λ (t : Theorem). t.conclusion) made_is)) (record { right = sides.1; sides = dest-equation left sides.1 })
trans-names (Err fault) theory first second answers = tt

-- equations that show sequents with one middle term fit
pub trans-fits : (first second : Theorem) (h k : List Nameless) (ty : HolType) (l m r : Nameless) → Shows first h (nameless_equation ty l m) → Shows second k (nameless_equation ty m r)
    → TransFits first second
trans-fits first second h k ty l m r shown_first shown_second =
    record { ty = ty; left = l; middle = m; right = r; first_is = shown_first.concludes; second_is = shown_second.concludes }

-- EQ_MP

pub eq_mp-gives : (result : Result Recorded Fault) (theory : Theory) (first second : Theorem) → IsTheorem first → Answers (theorem_in result) (eq_mp_outcome theory first second)
    → (h k : List Nameless) (p q : Nameless) → Shows first h (nameless_equation bool_type p q) → Shows second k p → Gives result (h ++ k) q
eq_mp-gives result theory first second is_first answers h k p q shown_first shown_second =
    let e = shown_sides first is_first bool_type p q shown_first.concludes in
    let meet : are_alpha_equivalent e.left second.conclusion ≡ true = (same_term-Decides (image e.left) (image second.conclusion)).1 (e.left_image ∙ sym shown_second.concludes) in
    ok-gives result (record { theory = theory; hypotheses = with_hypotheses first.hypotheses second.hypotheses; conclusion = e.right }) (h ++ k) q
    (record { same_set = merged h k first.hypotheses second.hypotheses shown_first.same_set shown_second.same_set; concludes = e.right_image })
    (eq_mp_outcome theory first second) (rw (e.dest, meet) refl) answers

-- premises that show an equation and its left side fit
pub eq_mp-fits : (first second : Theorem) (h k : List Nameless) (p q : Nameless) → Shows first h (nameless_equation bool_type p q) → Shows second k p → EqMpFits first second
eq_mp-fits first second h k p q shown_first shown_second =
    record { right = q; first_is = shown_first.concludes ∙ ap (λ (t : Nameless). nameless_equation bool_type t q) (sym shown_second.concludes) }

-- so do a theorem, and the equation of its conclusion and a term
pub equation-fits : (first second : Theorem) (right : NamedTerm) → type_of second.conclusion ≡ Some bool_type → first.conclusion ≡ equation second.conclusion right → EqMpFits first second
equation-fits first second right typed is = record { right = image right; first_is = ap image is ∙ image-equation second.conclusion right bool_type typed }

-- MK_COMB

pub application : (f x : NamedTerm) (domain codomain : HolType) → type_of f ≡ Some (function_type domain codomain) → type_of x ≡ Some domain → type_of (combination f x) ≡ Some codomain
application f x domain codomain typed_f typed_x = rw (typed_f, typed_x, type_eq-self domain) refl

pub mk_comb-derives : (result : Result Recorded Fault) (theory : Theory) (first second : Theorem) → IsTheorem first → IsTheorem second
    → Answers (theorem_in result) (mk_comb_outcome theory first second)
    → (h k : List Nameless) (domain codomain : HolType) (f g x y : Nameless) → Shows first h (nameless_equation (function_type domain codomain) f g) → Shows second k (nameless_equation domain x y)
    → Derives result (h ++ k) (nameless_equation codomain (app f x) (app g y))
mk_comb-derives result theory first second is_first is_second answers h k domain codomain f g x y shown_first shown_second =
    let e = shown_sides first is_first (function_type domain codomain) f g shown_first.concludes in
    let a = shown_sides second is_second domain x y shown_second.concludes in
    let left_typed = application e.left a.left domain codomain e.left_typed a.left_typed in
    let right_typed = application e.right a.right domain codomain e.right_typed a.right_typed in
    equation-derives result theory (with_hypotheses first.hypotheses second.hypotheses) (combination e.left a.left) (combination e.right a.right) codomain (h ++ k) (app f x) (app g y)
    left_typed right_typed (λ i. app (e.left_image i) (a.left_image i)) (λ i. app (e.right_image i) (a.right_image i))
    (merged h k first.hypotheses second.hypotheses shown_first.same_set shown_second.same_set)
    (mk_comb_outcome theory first second) (mk_comb-concluded theory first second e.left e.right a.left a.right codomain e.dest a.dest left_typed) answers

-- ABS

binder_is : (binder : NamedTerm) (name : List ℕ) (ty : HolType) → image binder ≡ free name ty → dest_variable binder ≡ Some (name, ty)
binder_is (variable other s) name ty is = let one : other ≡ name = cc in let two : s ≡ ty = cc in λ i. Some (one i, two i)
binder_is (constant other s) name ty is = cc
binder_is (combination f x) name ty is = cc
binder_is (abstraction other s body) name ty is = cc

not_free : (name : List ℕ) (ty : HolType) (hypotheses : List NamedTerm) → NotFreeInAny name ty (map image hypotheses) → is_free_in_hypotheses name ty hypotheses ≡ false
not_free name ty [] fresh = refl
not_free name ty (h ∷ hypotheses) fresh =
    neither (is_free name ty h) (is_free_in_hypotheses name ty hypotheses) (sym (occurs_free-image name ty h) ∙ fresh (image h) (inl refl))
    (not_free name ty hypotheses (λ t m. fresh t (inr m)))

abstraction-typed : (name : List ℕ) (domain codomain : HolType) (body : NamedTerm) → type_of body ≡ Some codomain → type_of (abstraction name domain body) ≡ Some (function_type domain codomain)
abstraction-typed name domain codomain body typed = rw typed refl

pub abs-derives : (result : Result Recorded Fault) (theory : Theory) (binder : NamedTerm) (theorem : Theorem) → IsTheorem theorem → Answers (theorem_in result) (abs_outcome theory binder theorem)
    → (h : List Nameless) (name : List ℕ) (domain codomain : HolType) (s t : Nameless) → image binder ≡ free name domain → IsKnownType theory domain → NotFreeInAny name domain h
    → Shows theorem h (nameless_equation codomain s t) → Derives result h (nameless_equation (function_type domain codomain) (lam domain (close name domain s)) (lam domain (close name domain t)))
abs-derives result theory binder theorem is answers h name domain codomain s t binds known fresh shown =
    let e = shown_sides theorem is codomain s t shown.concludes in
    let not_there = not_free name domain theorem.hypotheses (λ u m. fresh u (shown.same_set.back u m)) in
    let knows = (knows_type-Decides theory domain).1 known in
    equation-derives result theory theorem.hypotheses (abstraction name domain e.left) (abstraction name domain e.right) (function_type domain codomain) h
    (lam domain (close name domain s)) (lam domain (close name domain t))
    (abstraction-typed name domain codomain e.left e.left_typed) (abstraction-typed name domain codomain e.right e.right_typed)
    (image-abstraction name domain e.left ∙ (λ i. lam domain (close name domain (e.left_image i)))) (image-abstraction name domain e.right ∙ (λ i. lam domain (close name domain (e.right_image i))))
    shown.same_set (abs_outcome theory binder theorem) (abs-concluded theory binder theorem name domain e.left e.right (binder_is binder name domain binds) e.dest knows not_there) answers

pub abs-concludes : (result : Result Recorded Fault) (theory : Theory) (binder : NamedTerm) (theorem : Theorem) → IsTheorem theorem → Answers (theorem_in result) (abs_outcome theory binder theorem)
    → IfOk result (λ made. (name : List ℕ) (domain codomain : HolType) (s t : Nameless) → image binder ≡ free name domain → image theorem.conclusion ≡ nameless_equation codomain s t
    → image made.theorem.conclusion ≡ nameless_equation (function_type domain codomain) (lam domain (close name domain s)) (lam domain (close name domain t)))
abs-concludes (Ok made) theory binder theorem is answers = λ name domain codomain s t binds shown.
    let e = shown_sides theorem is codomain s t shown in
    let left = abstraction name domain e.left in
    let right = abstraction name domain e.right in
    let whole = equation left right in
    let next = concluded theory theorem.hypotheses whole in
    let fresh = not (is_free_in_hypotheses name domain theorem.hypotheses) in
    let outcome : unless (knows_type theory domain) UnknownType (unless fresh FreeInHypothesis next) ≡ Ok made.theorem = rw (binder_is binder name domain binds, e.dest) at answers in
    let passed = (unless-is (knows_type theory domain) UnknownType (unless fresh FreeInHypothesis next) made.theorem outcome).1 in
    let named = ap (λ (t : Theorem). t.conclusion) (concluded-is theory theorem.hypotheses whole made.theorem (unless-is fresh FreeInHypothesis next made.theorem passed).1) in
    let left_is : image left ≡ lam domain (close name domain s) = image-abstraction name domain e.left ∙ (λ i. lam domain (close name domain (e.left_image i))) in
    let right_is : image right ≡ lam domain (close name domain t) = image-abstraction name domain e.right ∙ (λ i. lam domain (close name domain (e.right_image i))) in
    ap image named ∙ image-equation left right (function_type domain codomain) (abstraction-typed name domain codomain e.left e.left_typed)
    ∙ (λ i. nameless_equation (function_type domain codomain) (left_is i) (right_is i))
abs-concludes (Err fault) theory binder theorem is answers = tt

-- DEDUCT_ANTISYM_RULE

without-same : (p : Nameless) (h k : List Nameless) → IsSameSet h k → IsSameSet (without p h) (without p k)
without-same p h k same = record {
  to = λ x m. in_without x p k (same.to x (of_without x p h m)) (not_without x p h m);
  back = λ x m. in_without x p h (same.back x (of_without x p k m)) (not_without x p k m);
}

pub deduct-derives : (result : Result Recorded Fault) (theory : Theory) (first second : Theorem) → IsTheorem first → IsTheorem second
    → Answers (theorem_in result) (deduct_antisym_outcome theory first second)
    → (h k : List Nameless) (p q : Nameless) → Shows first h p → Shows second k q → Derives result (without q h ++ without p k) (nameless_equation bool_type p q)
deduct-derives result theory first second is_first is_second answers h k p q shown_first shown_second =
    let left = without_hypothesis second.conclusion first.hypotheses in
    let right = without_hypothesis first.conclusion second.hypotheses in
    let left_is : map image left ≡ without q (map image first.hypotheses) = image-without_hypothesis second.conclusion first.hypotheses
    ∙ ap (λ t. without t (map image first.hypotheses)) shown_second.concludes in
    let right_is : map image right ≡ without p (map image second.hypotheses) = image-without_hypothesis first.conclusion second.hypotheses
    ∙ ap (λ t. without t (map image second.hypotheses)) shown_first.concludes in
    equation-derives result theory (with_hypotheses left right) first.conclusion second.conclusion bool_type (without q h ++ without p k) p q
    (formula_of first is_first) (formula_of second is_second) shown_first.concludes shown_second.concludes
    (merged (without q h) (without p k) left right
    (subst (λ (l : List Nameless). IsSameSet (without q h) l) (sym left_is) (without-same q h (map image first.hypotheses) shown_first.same_set))
    (subst (λ (l : List Nameless). IsSameSet (without p k) l) (sym right_is) (without-same p k (map image second.hypotheses) shown_second.same_set)))
    (deduct_antisym_outcome theory first second) refl answers

-- BETA

pub beta-derives : (result : Result Recorded Fault) (theory : Theory) (term : NamedTerm) → Answers (theorem_in result) (beta_outcome theory term)
    → (name : List ℕ) (domain codomain : HolType) (body : NamedTerm) → term ≡ combination (abstraction name domain body) (variable name domain)
    → type_of body ≡ Some codomain → IsKnown theory (image term) codomain
    → Derives result [] (nameless_equation codomain (app (lam domain (close name domain (image body))) (free name domain)) (image body))
beta-derives result theory term answers name domain codomain body is typed_body known =
    let none = no_unknown theory term codomain known in
    let dest : dest_trivial_redex term ≡ Some body = ap dest_trivial_redex is ∙ rw (same_variable-self name domain) refl in
    equation-derives result theory [] term body codomain [] (app (lam domain (close name domain (image body))) (free name domain)) (image body) (image-type term codomain known.typed) typed_body
    (ap image is ∙ ap (λ t. app t (free name domain)) (image-abstraction name domain body)) refl no_member (beta_outcome theory term) (rw (dest, none) refl) answers

-- INST and INST_TYPE

mapped : (f : Nameless → Nameless) (h k : List Nameless) → IsSameSet h k → IsSameSet (map f h) (map f k)
mapped f h k same = record {
  to = λ x m. let at = of_map f x h m in subst (λ (t : Nameless). IsMember t (map f k)) (sym at.2) (IsMember-map f at.0 k (same.to at.0 at.1));
  back = λ x m. let at = of_map f x k m in subst (λ (t : Nameless). IsMember t (map f h)) (sym at.2) (IsMember-map f at.0 h (same.back at.0 at.1));
}

pub changed-shows : (theory : Theory) (change : Nameless → Nameless) (theorem answer : Theorem) → IsChanged theory change theorem answer
    → (h : List Nameless) (c : Nameless) → Shows theorem h c → Shows answer (map change h) (change c)
changed-shows theory change theorem answer is h c shown = record {
  same_set = same_sets (map change h) (map image is.instances) (map image answer.hypotheses)
      (subst (λ (l : List Nameless). IsSameSet (map change h) l) (sym is.images) (mapped change h (map image theorem.hypotheses) shown.same_set))
      (subst (λ (l : List NamedTerm). IsSameSet (map image is.instances) (map image l)) (sym is.hypotheses) (with_hypotheses-same_set [] is.instances));
  concludes = is.conclusion ∙ ap change shown.concludes;
}

-- a member of terms that all pass a test passes it
pub member_passes : (test : Nameless → Bool) (terms : List Nameless) (t : Nameless) → list_all test terms ≡ true → IsMember t terms → test t ≡ true
member_passes test [] t all m = absurd m
member_passes test (u ∷ terms) t all (inl e) = ap test e ∙ first_of_both (test u) (list_all test terms) all
member_passes test (u ∷ terms) t all (inr m) = member_passes test terms t (second_of_both (test u) (list_all test terms) all) m

all_pass : (change : Nameless → Nameless) (terms : List NamedTerm) → ((t : Nameless) → IsMember t (map image terms) → nameless_within_limits (change t) ≡ true) → all_fit change terms ≡ true
all_pass change [] each = refl
all_pass change (t ∷ terms) each = both (nameless_within_limits (change (image t))) (all_fit change terms) (each (image t) (inl refl)) (all_pass change terms (λ u m. each u (inr m)))

refuted : (p q : Bool) → (q ≡ true → p ≡ true) → p ≡ false → q ≡ false
refuted p true step failed = sym (step refl) ∙ failed
refuted p false step failed = refl

changed-past : (change : Nameless → Nameless) (theorem : Theorem) (h : List Nameless) (c : Nameless) → Shows theorem h c → all_fit change (theorem.conclusion ∷ theorem.hypotheses) ≡ false
    → list_all nameless_within_limits (change c ∷ map change h) ≡ false
changed-past change theorem h c shown past =
    refuted (all_fit change (theorem.conclusion ∷ theorem.hypotheses)) (list_all nameless_within_limits (change c ∷ map change h))
    (λ all. all_pass change (theorem.conclusion ∷ theorem.hypotheses) (λ t m. elim m [
      | inl e ↦ ap (λ u. nameless_within_limits (change u)) (e ∙ shown.concludes) ∙ first_of_both (nameless_within_limits (change c)) (list_all nameless_within_limits (map change h)) all
      | inr k ↦ member_passes nameless_within_limits (map change h) (change t) (second_of_both (nameless_within_limits (change c)) (list_all nameless_within_limits (map change h)) all)
          (IsMember-map change t h (shown.same_set.back t k))
    ])) past

pub changed-derives : (result : Result Recorded Fault) (theory : Theory) (change : Nameless → Nameless) (theorem : Theorem) (refusal : Option Fault)
    → AnswersSuch (theorem_in result) (or_too_large refusal (all_fit change (theorem.conclusion ∷ theorem.hypotheses))) (IsChanged theory change theorem)
    → refusal ≡ None → (h : List Nameless) (c : Nameless) → Shows theorem h c → DerivesInstance result (map change h) (change c)
changed-derives (Ok made) theory change theorem refusal answers none h c shown = changed-shows theory change theorem made.theorem answers.1 h c shown
changed-derives (Err fault) theory change theorem refusal (inl memory) none h c shown = inl memory
changed-derives (Err fault) theory change theorem refusal (inr is) none h c shown =
    go (all_fit change (theorem.conclusion ∷ theorem.hypotheses)) refl (subst (λ (r : Option Fault). or_too_large r (all_fit change (theorem.conclusion ∷ theorem.hypotheses)) ≡ Some fault) none is)
  where
    go : (fits : Bool) → all_fit change (theorem.conclusion ∷ theorem.hypotheses) ≡ fits → or_too_large None fits ≡ Some fault
        → IsPast fault (list_all nameless_within_limits (change c ∷ map change h))
    go true is_fits refusal = cc
    go false is_fits refusal = let large : TooLarge ≡ fault = cc in inr (sym large, changed-past change theorem h c shown is_fits)

-- the very conclusions

pub refl-names : (result : Result Recorded Fault) (theory : Theory) (term : NamedTerm) → Answers (theorem_in result) (refl_outcome theory term)
    → IfOk result (λ made. made.theorem.conclusion ≡ equation term term)
refl-names (Ok made) theory term answers =
    ap (λ (t : Theorem). t.conclusion)
    (concluded-is theory [] (equation term term) made.theorem
    (refused-is (first_unknown theory term) (concluded theory [] (equation term term)) made.theorem answers))
refl-names (Err fault) theory term answers = tt

pub eq_mp-names : (result : Result Recorded Fault) (theory : Theory) (first second : Theorem) → Answers (theorem_in result) (eq_mp_outcome theory first second)
    → IfOk result (λ made. (sides : NamedTerm × NamedTerm) → dest_equation first.conclusion ≡ Some sides → made.theorem.conclusion ≡ sides.1)
eq_mp-names (Ok made) theory first second answers = λ sides dest.
    let theorem : Theorem = record { theory = theory; hypotheses = with_hypotheses first.hypotheses second.hypotheses; conclusion = sides.1 } in
    let outcome : unless (are_alpha_equivalent sides.0 second.conclusion) NotAlpha (Ok theorem) ≡ Ok made.theorem = rw dest at answers in
    ap (λ (t : Theorem). t.conclusion) (sym (ok_is theorem made.theorem (unless-is (are_alpha_equivalent sides.0 second.conclusion) NotAlpha (Ok theorem) made.theorem outcome).1))
eq_mp-names (Err fault) theory first second answers = tt

pub mk_comb-names : (result : Result Recorded Fault) (theory : Theory) (first second : Theorem) → Answers (theorem_in result) (mk_comb_outcome theory first second)
    → IfOk result (λ made. (functions arguments : NamedTerm × NamedTerm) → dest_equation first.conclusion ≡ Some functions → dest_equation second.conclusion ≡ Some arguments
    → made.theorem.conclusion ≡ equation (combination functions.0 arguments.0) (combination functions.1 arguments.1))
mk_comb-names (Ok made) theory first second answers = λ functions arguments dest_first dest_second.
    let whole = equation (combination functions.0 arguments.0) (combination functions.1 arguments.1) in
    let next = concluded theory (with_hypotheses first.hypotheses second.hypotheses) whole in
    let outcome : unless (is_some (type_of (combination functions.0 arguments.0))) TypeMismatch next ≡ Ok made.theorem = rw (dest_first, dest_second) at answers in
    ap (λ (t : Theorem). t.conclusion)
    (concluded-is theory (with_hypotheses first.hypotheses second.hypotheses) whole made.theorem
    (unless-is (is_some (type_of (combination functions.0 arguments.0))) TypeMismatch next made.theorem outcome).1)
mk_comb-names (Err fault) theory first second answers = tt

pub deduct-names : (result : Result Recorded Fault) (theory : Theory) (first second : Theorem) → Answers (theorem_in result) (deduct_antisym_outcome theory first second)
    → IfOk result (λ made. made.theorem.conclusion ≡ equation first.conclusion second.conclusion)
deduct-names (Ok made) theory first second answers =
    ap (λ (t : Theorem). t.conclusion)
    (concluded-is theory (with_hypotheses (without_hypothesis second.conclusion first.hypotheses)
    (without_hypothesis first.conclusion second.hypotheses)) (equation first.conclusion second.conclusion) made.theorem answers)
deduct-names (Err fault) theory first second answers = tt

-- calls one after another
pub continues-twice : (first second third : Journal) (one two : Result Recorded Fault) → Continues first second one → Continues second third two → Continues first third two
continues-twice first second third one two before after = record {
  grown = journals-grow.twice first second third before.grown after.grown;
  theory = after.theory ∙ before.theory;
  held = after.held;
}

pub still_made : (old new : Journal) (result : Result Recorded Fault) (made : Recorded) → Continues old new result → IsMade old made → IsMade new made
still_made old new result made continues was = journals-grow.stays old new made continues.grown was

pub now_made : (old new : Journal) (made : Recorded) → Continues old new (Ok made) → IsMade new made
now_made old new made continues = continues.held.made

-- what `?` returns on an error
pub passed_on : {T E : Type 0} → (result : Result T E) (fault : E) → IsErrAnd result (λ other. other ≡ fault) → result ≡ Err fault
passed_on (Ok made) fault is = absurd is
passed_on (Err other) fault is = ap (λ e. Err e) is
