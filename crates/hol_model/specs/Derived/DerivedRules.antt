-- What each derived rule states for its arguments (HOL Light's `equal.ml` and `bool.ml`), or the first refusal that
-- applies. Terms that come in are walked for unknown types and constants after shapes and types.
use Rattle.std.specs.Prelude.{◌≡◌, ◌⊎◌, ℕ, List, [], ◌∷◌, ◌++◌, Bool, true, false, ◌&&◌, not, Result, Ok, Err, Some, map, if◌then◌else◌, nat_le}
use Rattle.std.specs.Option.{option_map_or}
use Rattle.std.specs.List.{list_any, list_all}
use Rattle.hol_model.specs.declared.fault.Fault.{Fault}
use Rattle.hol_model.specs.declared.fault.Fault.TheVariants.{Memory, TooLarge, TypeMismatch, NotBool, NotEquation, NotAlpha, NotVariable, FreeInHypothesis, BadShape, UnknownType}
use Rattle.hol_model.specs.Terms.HolType.{HolType, function_type, type_eq, type_nodes}
use Rattle.hol_model.specs.Terms.NamedTerm.{NamedTerm, type_of, equation, dest_variable}
use Rattle.hol_model.specs.Terms.Nameless.{Nameless, free, const, bound, app, lam, image, same_term, nameless_type}
use Rattle.hol_model.specs.Terms.Measures.{nameless_height, nameless_nodes}
use Rattle.hol_model.specs.Terms.Substitution.{close, fill, occurs_free}
use Rattle.hol_model.specs.Logic.Theory.{Theory}
use Rattle.hol_model.specs.Logic.KnownTerm.{knows_type}
use Rattle.hol_model.specs.Logic.Derivable.{IsSameSet, without, nameless_equation}
use Rattle.hol_model.specs.Kernel.Outcome.{unless, given, refused}
use Rattle.hol_model.specs.Kernel.Theorem.{Theorem, are_alpha_equivalent}
use Rattle.hol_model.specs.Kernel.Rules.{first_unknown, dest_equation, is_formula}
use Rattle.hol_model.specs.Logic.NamedLogic.{true_term, false_term, conjunction, implication, disjunction, negation, forall_term, is_true, is_false, dest_conjunction, dest_implication}
use Rattle.hol_model.specs.Logic.NamedLogic.{dest_disjunction, dest_negation, Abstracted, dest_forall, dest_exists, dest_redex}

-- ---- stated sequents

-- a conclusion: a term, its bound names included; a term up to the names of bound variables; or such a term that is an
-- equation whose left side is told with its bound names
pub data Conclusion : Type 0 where
  named : NamedTerm → Conclusion
  up_to_names : Nameless → Conclusion
  with_left : NamedTerm → Nameless → Conclusion

-- what a rule states: the hypotheses are a set
pub record Stated : Type 0 where
  pub hypotheses : List Nameless
  pub conclusion : Conclusion

-- the term is an equation with this left side
pub record HasLeftSide (left term : NamedTerm) : Type 0 where
  pub right : NamedTerm
  pub sides : dest_equation term ≡ Some (left, right)

abbrev pub IsConclusion : Conclusion → NamedTerm → Type 0
IsConclusion (named term) conclusion = conclusion ≡ term
IsConclusion (up_to_names term) conclusion = image conclusion ≡ term
IsConclusion (with_left left term) conclusion = (image conclusion ≡ term) × HasLeftSide left conclusion

-- the theorem's sequent is the stated one
pub record States (stated : Stated) (theorem : Theorem) : Type 0 where
  pub hypotheses : IsSameSet (map image theorem.hypotheses) stated.hypotheses
  pub conclusion : IsConclusion stated.conclusion theorem.conclusion

abbrev pub images : Theorem → List Nameless
images theorem = map image theorem.hypotheses

abbrev pub stated : List Nameless → NamedTerm → Result Stated Fault
stated hypotheses conclusion = Ok (record { hypotheses = hypotheses; conclusion = named conclusion })

abbrev pub stated_up_to_names : List Nameless → Nameless → Result Stated Fault
stated_up_to_names hypotheses conclusion = Ok (record { hypotheses = hypotheses; conclusion = up_to_names conclusion })

abbrev pub stated_with_left : List Nameless → NamedTerm → Nameless → Result Stated Fault
stated_with_left hypotheses left conclusion = Ok (record { hypotheses = hypotheses; conclusion = with_left left conclusion })

-- ---- room

-- half of what a term may have: derivations on the way to a sequent need room above its own terms
abbrev pub ROOMY_HEIGHT : ℕ
ROOMY_HEIGHT = 1000

abbrev pub ROOMY_NODES : ℕ
ROOMY_NODES = 5000

abbrev pub ROOMY_TYPE_NODES : ℕ
ROOMY_TYPE_NODES = 250

abbrev pub is_roomy_type : HolType → Bool
is_roomy_type ty = nat_le (type_nodes ty) ROOMY_TYPE_NODES

-- each type written in the term, which stands under binders of these types, and the type of each part of it, leaves room
abbrev pub has_roomy_types : List HolType → Nameless → Bool
has_roomy_types binders (free name ty) = is_roomy_type ty
has_roomy_types binders (const name ty) = is_roomy_type ty
has_roomy_types binders (bound index) = true
has_roomy_types binders (app function argument) = has_roomy_types binders function && has_roomy_types binders argument
has_roomy_types binders (lam ty body) = has_roomy_types (ty ∷ binders) body && is_roomy_type (function_type ty (nameless_type (ty ∷ binders) body))

abbrev pub is_roomy : Nameless → Bool
is_roomy term = nat_le (nameless_height term) ROOMY_HEIGHT && nat_le (nameless_nodes term) ROOMY_NODES && has_roomy_types [] term

abbrev pub terms_of_theorem : Theorem → List Nameless
terms_of_theorem theorem = image theorem.conclusion ∷ images theorem

abbrev pub conclusion_image : Conclusion → Nameless
conclusion_image (named term) = image term
conclusion_image (up_to_names term) = term
conclusion_image (with_left left term) = term

abbrev pub terms_of_stated : Stated → List Nameless
terms_of_stated sequent = conclusion_image sequent.conclusion ∷ sequent.hypotheses

-- the call answers a theorem as it is stated, or the refusal; TooLarge may come in their place only where a term of the
-- arguments or of the stated sequent leaves no room, and Memory always
abbrev pub AnswersStated : Result Theorem Fault → List Nameless → Result Stated Fault → Type 0
AnswersStated (Ok theorem) arguments (Ok sequent) = States sequent theorem
AnswersStated (Ok theorem) arguments (Err refusal) = ⊥
AnswersStated (Err fault) arguments (Ok sequent) =
    (fault ≡ Memory) ⊎ ((fault ≡ TooLarge) × (list_all is_roomy (arguments ++ terms_of_stated sequent) ≡ false))
AnswersStated (Err fault) arguments (Err refusal) = (fault ≡ Memory) ⊎ (fault ≡ refusal)

-- ---- rules without connectives

-- SYM: a = b gives b = a
abbrev pub sym_outcome : Theorem → Result Stated Fault
sym_outcome theorem = given (dest_equation theorem.conclusion) NotEquation (λ sides. stated (images theorem) (equation sides.1 sides.0))

-- ADD_ASSUM p: one more hypothesis
abbrev pub add_assum_outcome : Theory → NamedTerm → Theorem → Result Stated Fault
add_assum_outcome theory p theorem =
    unless (is_formula p) NotBool
    (refused (first_unknown theory p)
    (stated (image p ∷ images theorem) theorem.conclusion))

-- the term is one of a list
abbrev pub is_among : Nameless → List Nameless → Bool
is_among term terms = list_any (same_term term) terms

-- PROVE_HYP: p takes the hypothesis p away
abbrev pub prove_hyp_outcome : Theorem → Theorem → Result Stated Fault
prove_hyp_outcome first second =
    stated
    (if is_among (image first.conclusion) (images second) then images first ++ without (image first.conclusion) (images second) else images second)
    second.conclusion

-- the body of an abstraction with a term for its variable
abbrev pub body_with : Abstracted → NamedTerm → Nameless
body_with quantified term = fill (image term) (close quantified.name quantified.ty (image quantified.body))

-- BETA_CONV: (\x. b) a = b[a/x], the left side as it is
abbrev pub beta_conv_outcome : Theory → NamedTerm → Result Stated Fault
beta_conv_outcome theory term =
    given (dest_redex term) BadShape (λ redex.
    refused (first_unknown theory term)
    (stated_with_left [] term (nameless_equation (nameless_type [] (image term)) (image term) (body_with redex.0 redex.1))))

-- ---- connectives

-- EQT_INTRO: p gives p <=> T
abbrev pub eqt_intro_outcome : Theorem → Result Stated Fault
eqt_intro_outcome theorem = stated (images theorem) (equation theorem.conclusion true_term)

-- EQT_ELIM: p <=> T gives p
abbrev pub eqt_elim_outcome : Theorem → Result Stated Fault
eqt_elim_outcome theorem =
    given (dest_equation theorem.conclusion) BadShape (λ sides.
    unless (is_true sides.1) BadShape
    (stated (images theorem) sides.0))

abbrev pub conj_outcome : Theorem → Theorem → Result Stated Fault
conj_outcome first second = stated (images first ++ images second) (conjunction first.conclusion second.conclusion)

abbrev pub conjunct1_outcome : Theorem → Result Stated Fault
conjunct1_outcome theorem = given (dest_conjunction theorem.conclusion) BadShape (λ sides. stated (images theorem) sides.0)

abbrev pub conjunct2_outcome : Theorem → Result Stated Fault
conjunct2_outcome theorem = given (dest_conjunction theorem.conclusion) BadShape (λ sides. stated (images theorem) sides.1)

-- DISCH p: q gives p ==> q, without the hypothesis p
abbrev pub disch_outcome : Theory → NamedTerm → Theorem → Result Stated Fault
disch_outcome theory p theorem =
    unless (is_formula p) NotBool
    (refused (first_unknown theory p)
    (stated (without (image p) (images theorem)) (implication p theorem.conclusion)))

-- UNDISCH: p ==> q gives q, with the hypothesis p
abbrev pub undisch_outcome : Theorem → Result Stated Fault
undisch_outcome theorem =
    given (dest_implication theorem.conclusion) BadShape (λ sides. stated (image sides.0 ∷ images theorem) sides.1)

-- MP: p ==> q and p give q
abbrev pub mp_outcome : Theorem → Theorem → Result Stated Fault
mp_outcome first second =
    given (dest_implication first.conclusion) BadShape (λ sides.
    unless (are_alpha_equivalent sides.0 second.conclusion) NotAlpha
    (stated (images first ++ images second) sides.1))

-- ---- quantifiers

-- the term is of this type
abbrev pub is_of_type : HolType → NamedTerm → Bool
is_of_type ty term = option_map_or (λ found. type_eq found ty) (type_of term) false

-- SPEC t: !x. p gives p[t/x]
abbrev pub spec_outcome : Theory → NamedTerm → Theorem → Result Stated Fault
spec_outcome theory term theorem =
    given (dest_forall theorem.conclusion) BadShape (λ quantified.
    unless (is_of_type quantified.ty term) TypeMismatch
    (refused (first_unknown theory term)
    (stated_up_to_names (images theorem) (body_with quantified term))))

-- the variable is free in one of the terms
abbrev pub is_free_in_some : List ℕ → HolType → List Nameless → Bool
is_free_in_some name ty terms = list_any (occurs_free name ty) terms

-- GEN x: p gives !x. p, x free in no hypothesis
abbrev pub gen_outcome : Theory → NamedTerm → Theorem → Result Stated Fault
gen_outcome theory term theorem =
    given (dest_variable term) NotVariable (λ binder.
    unless (knows_type theory binder.1) UnknownType
    (unless (not (is_free_in_some binder.0 binder.1 (images theorem))) FreeInHypothesis
    (stated (images theorem) (forall_term binder.0 binder.1 theorem.conclusion))))

-- EXISTS e w: e being ?x. p, p[w/x] gives e
abbrev pub exists_outcome : Theory → NamedTerm → NamedTerm → Theorem → Result Stated Fault
exists_outcome theory formula witness theorem =
    given (dest_exists formula) BadShape (λ quantified.
    unless (is_of_type quantified.ty witness) TypeMismatch
    (refused (first_unknown theory formula)
    (refused (first_unknown theory witness)
    (unless (same_term (body_with quantified witness) (image theorem.conclusion)) NotAlpha
    (stated (images theorem) formula)))))

-- CHOOSE v: ?x. p and q give q without the hypothesis p[v/x], v free neither in ?x. p, in q nor in another hypothesis
-- of q
abbrev pub choose_outcome : Theory → NamedTerm → Theorem → Theorem → Result Stated Fault
choose_outcome theory term first second =
    given (dest_variable term) NotVariable (λ binder.
    given (dest_exists first.conclusion) BadShape (λ quantified.
    unless (type_eq quantified.ty binder.1) TypeMismatch
    (unless (knows_type theory binder.1) UnknownType
    (let others = without (body_with quantified term) (images second) in
    unless (not (is_free_in_some binder.0 binder.1 (image first.conclusion ∷ image second.conclusion ∷ others))) FreeInHypothesis
    (stated (images first ++ others) second.conclusion)))))

-- ---- disjunction, falsity, negation

-- DISJ1 q: p gives p \/ q
abbrev pub disj1_outcome : Theory → NamedTerm → Theorem → Result Stated Fault
disj1_outcome theory q theorem =
    unless (is_formula q) NotBool
    (refused (first_unknown theory q)
    (stated (images theorem) (disjunction theorem.conclusion q)))

-- DISJ2 p: q gives p \/ q
abbrev pub disj2_outcome : Theory → NamedTerm → Theorem → Result Stated Fault
disj2_outcome theory p theorem =
    unless (is_formula p) NotBool
    (refused (first_unknown theory p)
    (stated (images theorem) (disjunction p theorem.conclusion)))

-- DISJ_CASES: p \/ q, r from p and r from q give r
abbrev pub disj_cases_outcome : Theorem → Theorem → Theorem → Result Stated Fault
disj_cases_outcome theorem first second =
    given (dest_disjunction theorem.conclusion) BadShape (λ sides.
    unless (are_alpha_equivalent first.conclusion second.conclusion) NotAlpha
    (stated (images theorem ++ without (image sides.0) (images first) ++ without (image sides.1) (images second)) first.conclusion))

-- CONTR p: F gives p
abbrev pub contr_outcome : Theory → NamedTerm → Theorem → Result Stated Fault
contr_outcome theory p theorem =
    unless (is_false theorem.conclusion) BadShape
    (unless (is_formula p) NotBool
    (refused (first_unknown theory p)
    (stated (images theorem) p)))

-- NOT_INTRO: p ==> F gives ~p
abbrev pub not_intro_outcome : Theorem → Result Stated Fault
not_intro_outcome theorem =
    given (dest_implication theorem.conclusion) BadShape (λ sides.
    unless (is_false sides.1) BadShape
    (stated (images theorem) (negation sides.0)))

-- NOT_ELIM: ~p gives p ==> F
abbrev pub not_elim_outcome : Theorem → Result Stated Fault
not_elim_outcome theorem = given (dest_negation theorem.conclusion) BadShape (λ p. stated (images theorem) (implication p false_term))

-- p \/ ~p
abbrev pub excluded_middle_outcome : Theory → NamedTerm → Result Stated Fault
excluded_middle_outcome theory p =
    unless (is_formula p) NotBool
    (refused (first_unknown theory p)
    (stated [] (disjunction p (negation p))))
