-- A refiner expression that meets what is small alone is not refused for a limit.
use Rattle.std.proofs.Common.{◌≡◌, ℕ, List, [], ◌∷◌, ◌++◌, length, map, Bool, true, false, ◌||◌, refl, sym, ◌∙◌, ap, subst, inl, inr, arith, Option, Some, None, Result, Ok, Err, if◌then◌else◌}
use Rattle.std.specs.Prelude.{nat_le}
use Rattle.std.specs.List.{list_all, list_any}
use Rattle.std.specs.Option.{option_map}
use Rattle.std.specs.Str.{bytes_eq}
use Rattle.hol_model.specs.declared.fault.Fault.{Fault}
use Rattle.hol_model.specs.declared.fault.Fault.TheVariants.{Memory, TooLarge, TypeMismatch, BadShape, RefineFails, UnknownName, InvalidStep, NotBool, NotTautology, TooManyAtoms}
use Rattle.hol_model.specs.declared.limits.TheConstants.{ATOMS_LIMIT}
use Rattle.hol_model.specs.Terms.NamedTerm.{NamedTerm, variable, constant, combination, abstraction}
use Rattle.hol_model.specs.Terms.Nameless.{Nameless, const, app, lam, image}
use Rattle.hol_model.specs.Terms.Measures.{nameless_within_limits}
use Rattle.hol_model.specs.Terms.Substitution.{close}
use Rattle.hol_model.specs.Logic.Theory.{Theory, equality_name}
use Rattle.hol_model.specs.Logic.Logic.{implies_name, binary, forall_name, exists_name}
use Rattle.hol_model.specs.Logic.NamedLogic.{Abstracted, implication, dest_conjunction, dest_disjunction, dest_implication, dest_negation, dest_quantified, dest_forall, dest_exists}
use Rattle.hol_model.specs.Kernel.Outcome.{unless, given, refused}
use Rattle.hol_model.specs.Kernel.Theorem.{Theorem, are_alpha_equivalent}
use Rattle.hol_model.specs.Kernel.Rules.{dest_equation, first_unknown, is_formula}
use Rattle.hol_model.specs.Terms.Nameless.{same_term}
use Rattle.hol_model.specs.Derived.DerivedRules.{Stated, stated, body_with, is_of_type, images}
use Rattle.hol_model.specs.Rewrites.SmallTerms.{is_small}
use Rattle.hol_model.specs.Goals.Goals.{Goal}
use Rattle.hol_model.specs.Goals.ValidSteps.{Step}
use Rattle.hol_model.specs.Goals.Justifications.{Justification, joined}
use Rattle.hol_model.specs.Goals.Achieving.{are_assumed, is_assumed}
use Rattle.hol_model.specs.Goals.Replays.{Store, IsWant, IsStoreOver, has_room_for_step}
use Rattle.hol_model.specs.Propositional.Propositions.{atoms_of}
use Rattle.hol_model.specs.Propositional.Tautologies.{falsity_of, falsifying_row, row_in_full, tautology_outcome}
use Rattle.hol_model.specs.Refining.HostFunctions.{Host, AnswersHostStep}
use Rattle.hol_model.specs.Refining.Conversions.{Conversion}
use Rattle.hol_model.specs.Refining.Refiners.{Leaf, all_tac, no_tac, accept_tac, assumption_tac, assume_tac, refl_tac, conj_tac, eq_tac, disj1_tac, disj2_tac, disch_tac, gen_tac, exists_tac}
use Rattle.hol_model.specs.Refining.Refiners.{mp_tac, disj_cases_tac, choose_tac, undisch_tac, conv_tac, rewrite_tac, taut_tac, table, discharged, AnswersTable, AnswersIfSmall, AnswersTautology}
use Rattle.hol_model.specs.Refining.Refiners.{StatedGoal, StatedStep, leaves_if_fitting, AnswersAllRules, IsRefusedBefore, GoesBy, theorems_named}
use Rattle.hol_model.specs.Refining.RefinerConditions.{HasLogic}
use Rattle.hol_model.specs.Refining.Combinators as tac
use Rattle.hol_model.specs.Refining.Combinators.{Tactic, Tactics, Link, Links, on_all, paired, paired_before, assigned, defined_as, with_step, Stage, Runs, RunsOn, RunsEach}
use Rattle.hol_model.proofs.Tests.{first_of_both, second_of_both, same_term-Decides}
use Rattle.hol_model.proofs.Terms.Images.{image-abstraction}
use Rattle.hol_laws_refiners.proofs.Later.{runs-later, runs_each-later}
use Rattle.hol_laws_refiners.proofs.GoodSteps.{store-later}
use Rattle.hol_laws_refusals.specs.KnownRules.{AreKnownRules, HasKnownRules, LeafHasKnownRules, TacticHasKnownRules, TacticsHaveKnownRules, LinkHasKnownRules, LinksHaveKnownRules}
use Rattle.hol_laws_refusals.specs.SmallConversions.{IsSmallTheorem}
use Rattle.hol_laws_refusals.specs.SmallRefiners.{IsSmallGoal, IsSmallIfThere, AreSmallTheorems, TakesSmall, RunsSmall, LinksRunSmall, EachRunsSmall}
use Rattle.hol_laws_refusals.specs.SmallLaws.{SmallRefinersFit}
use Rattle.hol_laws_refusals.proofs.Known.{same_pair, theorem-known}
use Rattle.hol_laws_refusals.proofs.RulesOf.{rules-known}
use Rattle.hol_laws_refusals.proofs.SmallLimits.{small-parts, small-roomy, joined-roomy, filled-small, roomy-within}
use Rattle.hol_laws_refusals.proofs.SmallAnswers.{IsNoLimit, Fits, is-no-limit, no-limit-unknown, rules-fit, converts-good}

-- ---- parts of small formulas

small-sides : (term : NamedTerm) (sides : NamedTerm × NamedTerm) → dest_equation term ≡ Some sides → is_small (image term) ≡ true
    → (is_small (image sides.0) ≡ true) × (is_small (image sides.1) ≡ true)
small-sides (combination (combination (constant other ty) a) b) sides dest small = go (bytes_eq other equality_name) dest
  where
    go : (test : Bool) → if◌then◌else◌ {A = Option (NamedTerm × NamedTerm)} test (Some (a, b)) None ≡ Some sides → (is_small (image sides.0) ≡ true) × (is_small (image sides.1) ≡ true)
    go true is =
        let outer = small-parts (app (const other ty) (image a)) (image b) small in
        let inner = small-parts (const other ty) (image a) outer.0 in
        subst (λ (s : NamedTerm × NamedTerm). (is_small (image s.0) ≡ true) × (is_small (image s.1) ≡ true)) (same_pair (a, b) sides is) (inner.1, outer.1)
    go false is = cc
small-sides (combination (combination (variable other ty) a) b) sides dest small = cc
small-sides (combination (combination (combination f x) a) b) sides dest small = cc
small-sides (combination (combination (abstraction n s t) a) b) sides dest small = cc
small-sides (combination (variable n s) b) sides dest small = cc
small-sides (combination (constant n s) b) sides dest small = cc
small-sides (combination (abstraction n s t) b) sides dest small = cc
small-sides (variable n s) sides dest small = cc
small-sides (constant n s) sides dest small = cc
small-sides (abstraction n s t) sides dest small = cc

-- the body of a quantifier, with a variable for its own
with-variable-small : (quantifier_name : List ℕ) (term : NamedTerm) (at : Abstracted) (fresh : List ℕ) → dest_quantified quantifier_name term ≡ Some at → is_small (image term) ≡ true
    → is_small (body_with at (variable fresh at.ty)) ≡ true
with-variable-small quantifier_name (combination (constant other s) (abstraction name ty body)) at fresh dest small = go (bytes_eq other quantifier_name) dest
  where
    found : Abstracted
    found = record { name = name; ty = ty; body = body }

    go : (test : Bool) → (if test then Some found else None) ≡ Some at → is_small (body_with at (variable fresh at.ty)) ≡ true
    go true is =
        let same : found ≡ at = cc in
        let inner : is_small (image (abstraction name ty body)) ≡ true = (small-parts (const other s) (image (abstraction name ty body)) small).1 in
        let closed : is_small (lam ty (close name ty (image body))) ≡ true = subst (λ (t : Nameless). is_small t ≡ true) (image-abstraction name ty body) inner in
        subst (λ (a : Abstracted). is_small (body_with a (variable fresh a.ty)) ≡ true) same (filled-small fresh ty (close name ty (image body)) closed)
    go false is = cc
with-variable-small quantifier_name (combination (constant other s) (variable n t)) at fresh dest small = cc
with-variable-small quantifier_name (combination (constant other s) (constant n t)) at fresh dest small = cc
with-variable-small quantifier_name (combination (constant other s) (combination f x)) at fresh dest small = cc
with-variable-small quantifier_name (combination (variable n s) b) at fresh dest small = cc
with-variable-small quantifier_name (combination (combination f x) b) at fresh dest small = cc
with-variable-small quantifier_name (combination (abstraction n s t) b) at fresh dest small = cc
with-variable-small quantifier_name (variable n s) at fresh dest small = cc
with-variable-small quantifier_name (constant n s) at fresh dest small = cc
with-variable-small quantifier_name (abstraction n s t) at fresh dest small = cc

-- a term of a list of small ones
among-small : (term : Nameless) (terms : List Nameless) → list_any (same_term term) terms ≡ true → list_all is_small terms ≡ true → is_small term ≡ true
among-small term [] there all = cc
among-small term (other ∷ terms) there all =
    go (same_term term other) refl there (λ later. among-small term terms later (second_of_both (is_small other) (list_all is_small terms) all))
  where
    go : (test : Bool) → same_term term other ≡ test → (test || list_any (same_term term) terms) ≡ true → (list_any (same_term term) terms ≡ true → is_small term ≡ true)
        → is_small term ≡ true
    go true tested there deeper = ap is_small ((same_term-Decides term other).0 tested) ∙ first_of_both (is_small other) (list_all is_small terms) all
    go false tested there deeper = deeper there

-- the target of a small goal, a theorem's conclusion
target-small : (goal : Goal) → IsSmallGoal goal → is_small (image goal.target) ≡ true
target-small goal small = first_of_both (is_small (image goal.target)) (list_all is_small (map image goal.assumptions)) small

conclusion-small : (theorem : Theorem) → IsSmallTheorem theorem → is_small (image theorem.conclusion) ≡ true
conclusion-small theorem small = first_of_both (is_small (image theorem.conclusion)) (list_all is_small (images theorem)) small

stored-small : (found : Option Theorem) (theorem : Theorem) → found ≡ Some theorem → IsSmallIfThere found → IsSmallTheorem theorem
stored-small found theorem is small = subst (λ (o : Option Theorem). IsSmallIfThere o) is small

implication-within : (p q : NamedTerm) → is_small (image p) ≡ true → is_small (image q) ≡ true → nameless_within_limits (image (implication p q)) ≡ true
implication-within p q small_p small_q = roomy-within (image (implication p q)) (joined-roomy implies_name binary (image p) (image q) (omega arith) small_p small_q)

-- ---- the table

pub fits-given : {A B : Type 0} (found : Option A) (fault : Fault) (next : A → Result B Fault) → IsNoLimit fault → ((x : A) → found ≡ Some x → Fits (next x)) → Fits (given found fault next)
fits-given {A = A} {B = B} None fault next none fits = none
fits-given {A = A} {B = B} (Some x) fault next none fits = fits x refl

pub fits-test : {A : Type 0} (test : Bool) (fault : Fault) (next : Result A Fault) → IsNoLimit fault → (test ≡ true → Fits next) → Fits (unless test fault next)
fits-test {A = A} true fault next none fits = fits refl
fits-test {A = A} false fault next none fits = none

pub fits-refused : {A : Type 0} (found : Option Fault) (next : Result A Fault) → ((fault : Fault) → found ≡ Some fault → IsNoLimit fault) → Fits next → Fits (refused found next)
fits-refused {A = A} None next none fits = fits
fits-refused {A = A} (Some fault) next none fits = none fault refl

fits-made : (made : Nameless) (goals : List StatedGoal) (justification : Justification) → nameless_within_limits made ≡ true → Fits (leaves_if_fitting made goals justification)
fits-made made goals justification within =
    let step : StatedStep = record { goals = goals; justification = justification } in
    subst (λ (test : Bool). Fits {A = StatedStep} (unless test TooLarge (Ok step))) (sym within) tt

discharged-fits : (goal : Goal) (sides : Option (NamedTerm × NamedTerm)) (negated : Option NamedTerm) → Fits (discharged goal sides negated)
discharged-fits goal (Some sides) negated = tt
discharged-fits goal None (Some p) = tt
discharged-fits goal None None = tt

table-fits : (store : Store) (l : Leaf) (goal : Goal) (fresh : List ℕ) → IsSmallGoal goal → TakesSmall store l goal → Fits (table store l goal fresh)
table-fits store all_tac goal fresh small takes = tt
table-fits store no_tac goal fresh small takes = tt
table-fits store (accept_tac name) goal fresh small takes = fits-given (store.named name) UnknownName _ tt (λ theorem is.
    fits-test (are_alpha_equivalent theorem.conclusion goal.target) RefineFails _ tt (λ same. fits-test (are_assumed theorem.hypotheses goal) RefineFails _ tt (λ assumed. tt)))
table-fits store assumption_tac goal fresh small takes = fits-test (is_assumed goal.target goal) RefineFails _ tt (λ assumed. tt)
table-fits store (assume_tac name) goal fresh small takes =
    fits-given (store.named name) UnknownName _ tt (λ theorem is. fits-test (are_assumed theorem.hypotheses goal) RefineFails _ tt (λ assumed. tt))
table-fits store refl_tac goal fresh small takes =
    fits-given (dest_equation goal.target) BadShape _ tt (λ sides is. fits-test (are_alpha_equivalent sides.0 sides.1) RefineFails _ tt (λ same. tt))
table-fits store conj_tac goal fresh small takes = fits-given (dest_conjunction goal.target) BadShape _ tt (λ sides is. tt)
table-fits store eq_tac goal fresh small takes = fits-given (dest_equation goal.target) BadShape _ tt (λ sides is.
    let parts = small-sides goal.target sides is (target-small goal small) in
    fits-test (is_formula sides.0) BadShape _ tt (λ formula. fits-made (image (implication sides.1 sides.0)) _ _ (implication-within sides.1 sides.0 parts.1 parts.0)))
table-fits store disj1_tac goal fresh small takes = fits-given (dest_disjunction goal.target) BadShape _ tt (λ sides is. tt)
table-fits store disj2_tac goal fresh small takes = fits-given (dest_disjunction goal.target) BadShape _ tt (λ sides is. tt)
table-fits store disch_tac goal fresh small takes = discharged-fits goal (dest_implication goal.target) (dest_negation goal.target)
table-fits store gen_tac goal fresh small takes = fits-given (dest_forall goal.target) BadShape _ tt (λ q is.
    let made = body_with q (variable fresh q.ty) in
    fits-made made _ _ (roomy-within made (small-roomy made (with-variable-small forall_name goal.target q fresh is (target-small goal small)))))
table-fits store (exists_tac witness) goal fresh small takes = fits-given (dest_exists goal.target) BadShape _ tt (λ q is.
    fits-test (is_of_type q.ty witness) TypeMismatch _ tt (λ typed. fits-made (body_with q witness) _ _ (roomy-within (body_with q witness) (small-roomy (body_with q witness) (takes q is)))))
table-fits store (mp_tac name) goal fresh small takes = fits-given (store.named name) UnknownName _ tt (λ theorem is.
    fits-test (are_assumed theorem.hypotheses goal) RefineFails _ tt (λ assumed. fits-made (image (implication theorem.conclusion goal.target)) _ _
    (implication-within theorem.conclusion goal.target (conclusion-small theorem (stored-small (store.named name) theorem is takes)) (target-small goal small))))
table-fits store (disj_cases_tac name) goal fresh small takes = fits-given (store.named name) UnknownName _ tt (λ theorem is.
    fits-given (dest_disjunction theorem.conclusion) BadShape _ tt (λ sides js. fits-test (are_assumed theorem.hypotheses goal) RefineFails _ tt (λ assumed. tt)))
table-fits store (choose_tac name) goal fresh small takes = fits-given (store.named name) UnknownName _ tt (λ theorem is.
    fits-given (dest_exists theorem.conclusion) BadShape _ tt (λ q dest.
    let made = body_with q (variable fresh q.ty) in
    fits-test (are_assumed theorem.hypotheses goal) RefineFails _ tt (λ assumed. fits-made made _ _ (roomy-within made (small-roomy made
    (with-variable-small exists_name theorem.conclusion q fresh dest (conclusion-small theorem (stored-small (store.named name) theorem is takes))))))))
table-fits store (undisch_tac p) goal fresh small takes = fits-test (is_assumed p goal) RefineFails _ tt (λ assumed.
    let p_small = among-small (image p) (map image goal.assumptions) assumed (second_of_both (is_small (image goal.target)) (list_all is_small (map image goal.assumptions)) small) in
    fits-made (image (implication p goal.target)) _ _ (implication-within p goal.target p_small (target-small goal small)))
table-fits store (conv_tac c) goal fresh small takes = tt
table-fits store (rewrite_tac names) goal fresh small takes = tt
table-fits store taut_tac goal fresh small takes = tt

answers-fit : (theory : Theory) (store : Store) (l : Leaf) (goal : Goal) (answer : Result Step Fault) → IsSmallGoal goal → TakesSmall store l goal → AnswersTable theory store l goal answer
    → Fits answer
answers-fit theory store l goal (Ok step) small takes answers = tt
answers-fit theory store l goal (Err fault) small takes answers = subst (λ (a : Result StatedStep Fault). Fits a) answers.1 (table-fits store l goal answers.0 small takes)

-- ---- TAUT_TAC

falsity-no-limit : (term : NamedTerm) (fault : Fault) → falsity_of term ≡ Some fault → IsNoLimit fault
falsity-no-limit term fault is = go (nat_le (length (atoms_of term)) ATOMS_LIMIT) (falsifying_row term) is
  where
    go : (test : Bool) (row : Option (List Bool))
        → (if test then option_map (λ r. NotTautology (length (atoms_of term)) (row_in_full r)) row else Some TooManyAtoms) ≡ Some fault → IsNoLimit fault
    go true None is = cc
    go true (Some row) is = let same : NotTautology (length (atoms_of term)) (row_in_full row) ≡ fault = cc in subst IsNoLimit same tt
    go false row is = let same : TooManyAtoms ≡ fault = cc in subst IsNoLimit same tt

pub want-fits : (fault : Fault) (room : Bool) → room ≡ true → IsWant fault room → IsNoLimit fault
want-fits fault room there (inl is) = is-no-limit fault Memory is tt
want-fits fault room there (inr is) = let none = is.1 in cc

if_small-fits : (small : Bool) (outcome : Result Stated Fault) (fault : Fault) → small ≡ true → Fits outcome → AnswersIfSmall small outcome (Err fault) → IsNoLimit fault
if_small-fits small (Ok stated) fault is fits wanted = want-fits fault small is wanted
if_small-fits small (Err refusal) fault is fits (inl same) = is-no-limit fault refusal same fits
if_small-fits small (Err refusal) fault is fits (inr memory) = is-no-limit fault Memory memory tt

tautology-fits : (theory : Theory) (term : NamedTerm) (fault : Fault) → is_small (image term) ≡ true → AnswersTautology theory term (Err fault) → IsNoLimit fault
tautology-fits theory term fault small answers =
    if_small-fits (is_small (image term)) (tautology_outcome theory term) fault small
    (fits-test (is_formula term) NotBool _ tt (λ formula.
    fits-refused (first_unknown theory term) _ (no-limit-unknown theory term) (fits-refused (falsity_of term) (stated [] term) (falsity-no-limit term) tt))) answers

-- ---- a host's refiners

host_step-fits : (theory : Theory) (store : Store) (goal : Goal) (answered : Step) (answer : Result Step Fault) → has_room_for_step theory store answered ≡ true
    → AnswersHostStep theory store goal answered answer → Fits answer
host_step-fits theory store goal answered (Ok step) room answers = tt
host_step-fits theory store goal answered (Err fault) room (inl is) = is-no-limit fault InvalidStep is.0 tt
host_step-fits theory store goal answered (Err fault) room (inr wanted) = want-fits fault _ room wanted

-- ---- refiners by a conversion

abbrev AreSmall : List Theorem → Type 0
AreSmall [] = Unit {0}
AreSmall (theorem ∷ theorems) = IsSmallTheorem theorem × AreSmall theorems

named-small : (store : Store) (names : List (List ℕ)) (theorems : List Theorem) → theorems_named store names ≡ Some theorems → AreSmallTheorems store names → AreSmall theorems
named-small store [] theorems is small = let same : [] ≡ theorems = cc in subst AreSmall same tt
named-small store (name ∷ names) theorems is small =
    go (store.named name) refl (theorems_named store names) (λ others are. named-small store names others are small.1) is
  where
    go : (found : Option Theorem) → store.named name ≡ found → (rest : Option (List Theorem)) → ((others : List Theorem) → rest ≡ Some others → AreSmall others)
        → joined found rest ≡ Some theorems → AreSmall theorems
    go None found_is rest deeper is = cc
    go (Some theorem) found_is None deeper is = cc
    go (Some theorem) found_is (Some others) deeper is =
        let same : theorem ∷ others ≡ theorems = cc in
        subst AreSmall same (stored-small (store.named name) theorem found_is small.0, deeper others refl)

module _ (theory : Theory) (has : HasLogic theory) where
  all_rules-fit : (theorems : List Theorem) (fault : Fault) → AreSmall theorems → AnswersAllRules theorems (Err fault) → IsNoLimit fault
  all_rules-fit [] fault small answers = absurd answers
  all_rules-fit (theorem ∷ theorems) fault small (inl refuses) = rules-fit theory theorem fault small.0 refuses
  all_rules-fit (theorem ∷ theorems) fault small (inr refuses) = all_rules-fit theorems fault small.1 refuses

  before-fits : (store : Store) (l : Leaf) (goal : Goal) (fault : Fault) → TakesSmall store l goal → IsRefusedBefore store l fault → IsNoLimit fault
  before-fits store (rewrite_tac names) goal fault takes (inl is) = is-no-limit fault UnknownName is.1 tt
  before-fits store (rewrite_tac names) goal fault takes (inr refuses) = all_rules-fit refuses.0 fault (named-small store names refuses.0 refuses.1 takes) refuses.2
  before-fits store _ goal fault takes answers = absurd answers

  rules-append : (xs ys : List Theorem) → AreKnownRules theory xs → AreKnownRules theory ys → AreKnownRules theory (xs ++ ys)
  rules-append [] ys h k = k
  rules-append (x ∷ xs) ys h k = (h.0, rules-append xs ys h.1 k)

  all_rules-known : (theorems rules : List Theorem) → AreKnownRules theory theorems → AnswersAllRules theorems (Ok rules) → AreKnownRules theory rules
  all_rules-known [] rules known is = subst (AreKnownRules theory) (sym is) tt
  all_rules-known (theorem ∷ theorems) rules known answers =
      subst (AreKnownRules theory) (sym answers.4)
      (rules-append answers.0 answers.1 (rules-known theory has theorem answers.0 known.0 answers.2) (all_rules-known theorems answers.1 known.1 answers.3))

  stored-known : (store : Store) → IsStoreOver theory store → (names : List (List ℕ)) (theorems : List Theorem) → theorems_named store names ≡ Some theorems → AreKnownRules theory theorems
  stored-known store over [] theorems is = let same : [] ≡ theorems = cc in subst (AreKnownRules theory) same tt
  stored-known store over (name ∷ names) theorems is =
      go (store.named name) refl (theorems_named store names) (λ others are. stored-known store over names others are) is
    where
      go : (found : Option Theorem) → store.named name ≡ found → (rest : Option (List Theorem)) → ((others : List Theorem) → rest ≡ Some others → AreKnownRules theory others)
          → joined found rest ≡ Some theorems → AreKnownRules theory theorems
      go None found_is rest deeper is = cc
      go (Some theorem) found_is None deeper is = cc
      go (Some theorem) found_is (Some others) deeper is =
          let same : theorem ∷ others ≡ theorems = cc in
          subst (AreKnownRules theory) same (theorem-known theory has.legal theorem (over.named name theorem found_is), deeper others refl)

  goes-by-known : (store : Store) → IsStoreOver theory store → (l : Leaf) (c : Conversion) → GoesBy store l c → LeafHasKnownRules theory l → HasKnownRules theory c
  goes-by-known store over (conv_tac own) c by h = subst (HasKnownRules theory) (sym by) h
  goes-by-known store over (rewrite_tac names) c by h = subst (HasKnownRules theory) (sym by.4) (all_rules-known by.0 by.1 (stored-known store over names by.0 by.2) by.3)
  goes-by-known store over _ c by h = absurd by

  -- ---- which refiner runs on which goal

  abbrev HaveKnown : List (Tactic × Goal) → Type 0
  HaveKnown [] = Unit {0}
  HaveKnown (task ∷ tasks) = TacticHasKnownRules theory task.0 × HaveKnown tasks

  abbrev KnownIfAssigned : Option (List (Tactic × Goal)) → Type 0
  KnownIfAssigned None = Unit {0}
  KnownIfAssigned (Some tasks) = HaveKnown tasks

  on_all-known : (t : Tactic) (goals : List Goal) → TacticHasKnownRules theory t → HaveKnown (on_all t goals)
  on_all-known t [] h = tt
  on_all-known t (goal ∷ goals) h = (h, on_all-known t goals h)

  before-known : (t : Tactic) (goal : Goal) (tasks : Option (List (Tactic × Goal))) → TacticHasKnownRules theory t → KnownIfAssigned tasks → KnownIfAssigned (paired_before t goal tasks)
  before-known t goal None h rest = tt
  before-known t goal (Some tasks) h rest = (h, rest)

  paired-known : (ts : Tactics) (goals : List Goal) → TacticsHaveKnownRules theory ts → KnownIfAssigned (paired ts goals)
  paired-known tac.no_more [] h = tt
  paired-known tac.no_more (goal ∷ goals) h = tt
  paired-known (tac.more t ts) [] h = tt
  paired-known (tac.more t ts) (goal ∷ goals) h = before-known t goal (paired ts goals) h.0 (paired-known ts goals h.1)

  assigned-known : (l : Link) (goals : List Goal) → LinkHasKnownRules theory l → KnownIfAssigned (assigned l goals)
  assigned-known (tac.then_all t) goals h = on_all-known t goals h
  assigned-known (tac.then_each ts) [] h = tt
  assigned-known (tac.then_each ts) (goal ∷ goals) h = paired-known ts (goal ∷ goals) h

  tasks-known : (l : Link) (goals : List Goal) (tasks : List (Tactic × Goal)) → assigned l goals ≡ Some tasks → LinkHasKnownRules theory l → HaveKnown tasks
  tasks-known l goals tasks is h = subst KnownIfAssigned is (assigned-known l goals h)

  -- ---- the refiners that stand for others

  abbrev KnownIn : Option Tactic → Type 0
  KnownIn None = Unit {0}
  KnownIn (Some t) = TacticHasKnownRules theory t

  defined-known : (t : Tactic) → TacticHasKnownRules theory t → KnownIn (defined_as t)
  defined-known (tac.repeat t) h = ((h, (h, tt)), (tt, tt))
  defined-known (tac.try t) h = (h, (tt, tt))
  defined-known _ h = tt

  definition-known : (t u : Tactic) → defined_as t ≡ Some u → TacticHasKnownRules theory t → TacticHasKnownRules theory u
  definition-known t u is h = subst KnownIn is (defined-known t h)

  -- ---- runs

  with-step : (step : Step) (others answer : Result (List Step) Fault) → answer ≡ with_step step others → Fits others → Fits answer
  with-step step (Ok steps) answer is fits = subst (λ (a : Result (List Step) Fault). Fits a) (sym is) tt
  with-step step (Err fault) answer is fits = subst (λ (a : Result (List Step) Fault). Fits a) (sym is) fits

  module _ (host : Host) where
    mutual
      pub runs-fit : {before after : Stage} {t : Tactic} {goal : Goal} {answer : Result Step Fault} → (r : Runs theory host before t goal answer after)
          → IsStoreOver theory before.store → TacticHasKnownRules theory t → RunsSmall theory host r → Fits answer
      runs-fit (tac.no_step_is_left spends) over h small = tt
      runs-fit (tac.leaf_refines {store} {l} {goal} {answer} there is) over h small = answers-fit theory store l goal answer small.0 small.1 is
      runs-fit (tac.leaf_is_refused {store} {l} {goal} {fault} is) over h small = before-fits store l goal fault small.1 is
      runs-fit (tac.conversion_is_refused {store} {l} {c} by r) over h small = converts-good theory has store host.conversions over (goes-by-known store over l c by h) r small.1
      runs-fit (tac.conversion_is_not_assumed by r foreign) over h small = tt
      runs-fit (tac.conversion_refines by r assumed proved dest equates is) over h small = tt
      runs-fit (tac.taut_is_refused {goal} {fault} is) over h small = tautology-fits theory goal.target fault (target-small goal small) is
      runs-fit (tac.taut_refines answers proved is) over h small = tt
      runs-fit (tac.host_is_unknown lacks) over h small = tt
      runs-fit (tac.host_fails is fails) over h small = tt
      runs-fit (tac.host_refines {store} {goal} {answer} answered is says answers) over h small = host_step-fits theory store goal answered answer small.1 answers
      runs-fit (tac.first_is_refused r) over h small = runs-fit r over h.0 small
      runs-fit (tac.first_goes_on {before} {mid} r s) over h small = runs_on-fit s (store-later theory before mid (runs-later theory host r) over) h.1 small.1
      runs-fit (tac.first_answers r) over h small = tt
      runs-fit (tac.first_is_not_caught r passes) over h small = runs-fit r over h.0 small
      runs-fit (tac.last_is_refused r) over h small = runs-fit r over h.0 small
      runs-fit (tac.first_is_caught {before} {mid} r caught s) over h small = runs-fit s (store-later theory before mid (runs-later theory host r) over) h.1 small.1
      runs-fit (tac.repeat_is_too_deep r deep) over h small = absurd small
      runs-fit (tac.runs_as_defined {t} {u} is r) over h small = runs-fit r over (definition-known t u is h) small
      runs-fit (tac.finds_no_memory later) over h small = tt

      runs_on-fit : {before after : Stage} {step : Step} {links : Links} {answer : Result Step Fault} → (r : RunsOn theory host before step links answer after)
          → IsStoreOver theory before.store → LinksHaveKnownRules theory links → LinksRunSmall theory host r → Fits answer
      runs_on-fit tac.ends over h small = tt
      runs_on-fit (tac.lengths_differ differ) over h small = tt
      runs_on-fit (tac.next_is_refused {step} {l} {tasks} is r) over h small = runs_each-fit r over (tasks-known l step.goals tasks is h.0) small
      runs_on-fit (tac.splice_is_too_deep is r deep) over h small = absurd small
      runs_on-fit (tac.next_goes_on {before} {mid} is r fits s) over h small = runs_on-fit s (store-later theory before mid (runs_each-later theory host r) over) h.1 small.1
      runs_on-fit (tac.goes_on_without_memory later) over h small = tt

      runs_each-fit : {before after : Stage} {tasks : List (Tactic × Goal)} {answer : Result (List Step) Fault} → (r : RunsEach theory host before tasks answer after)
          → IsStoreOver theory before.store → HaveKnown tasks → EachRunsSmall theory host r → Fits answer
      runs_each-fit tac.none_is_left over h small = tt
      runs_each-fit (tac.one_is_refused r) over h small = runs-fit r over h.0 small
      runs_each-fit (tac.one_is_done {before} {mid} {step} {others} {answer} r s is) over h small =
          with-step step others answer is (runs_each-fit s (store-later theory before mid (runs-later theory host r) over) h.1 small.1)
      runs_each-fit (tac.each_finds_no_memory later) over h small = tt

pub small-refiners-fit : (host : Host) → SmallRefinersFit host
small-refiners-fit host theory before final t goal has over rules r small = runs-fit theory has host r over rules small
