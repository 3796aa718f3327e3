-- Refiners without parts: the table of what each leaves of a goal (HOL Light's tactics), with its justification, or the first
-- refusal that applies.
use Rattle.std.specs.Prelude.{◌≡◌, ◌⊎◌, ℕ, List, [], ◌∷◌, ◌++◌, map, Bool, true, false, ◌||◌, Option, Some, None, Result, Ok, Err, if◌then◌else◌}
use Rattle.std.specs.List.{list_any}
use Rattle.std.specs.Option.{is_some}
use Rattle.std.specs.Str.{bytes_eq}
use Rattle.hol_model.specs.declared.fault.Fault.{Fault}
use Rattle.hol_model.specs.declared.fault.Fault.TheVariants.{Memory, TooLarge, TypeMismatch, BadShape, RefineFails, UnknownName}
use Rattle.hol_model.specs.Terms.HolType.{HolType, bool_type}
use Rattle.hol_model.specs.Terms.NamedTerm.{NamedTerm, variable}
use Rattle.hol_model.specs.Terms.Nameless.{Nameless, free, const, bound, app, lam, image}
use Rattle.hol_model.specs.Terms.Measures.{nameless_within_limits}
use Rattle.hol_model.specs.Terms.Substitution.{IsFirstFree, occurs_free}
use Rattle.hol_model.specs.Logic.Theory.{Theory, generic_type}
use Rattle.hol_model.specs.Logic.NamedLogic.{Abstracted, false_term, implication, dest_conjunction, dest_disjunction, dest_implication, dest_negation, dest_forall, dest_exists, is_true}
use Rattle.hol_model.specs.Kernel.Outcome.{unless, given}
use Rattle.hol_model.specs.Kernel.Theorem.{Theorem, are_alpha_equivalent, without_hypothesis}
use Rattle.hol_model.specs.Kernel.Rules.{dest_equation, is_formula}
use Rattle.hol_model.specs.Derived.DerivedRules.{Stated, States, Conclusion, named, up_to_names, IsConclusion, body_with, is_of_type}
use Rattle.hol_model.specs.Logic.Derivable.{nameless_equation}
use Rattle.hol_model.specs.Goals.Goals.{Goal}
use Rattle.hol_model.specs.declared.rule.Rule.TheVariants as rules
use Rattle.hol_model.specs.Goals.Justifications as tree
use Rattle.hol_model.specs.Goals.Justifications.{Justification, by_rule, Parts, no_parts, part}
use Rattle.hol_model.specs.Goals.ValidSteps.{Step}
use Rattle.hol_model.specs.Goals.Achieving.{is_assumed, are_assumed}
use Rattle.hol_model.specs.Goals.Replays.{Store, IsWant}
use Rattle.hol_model.specs.Refining.Conversions.{Conversion, rules_conv, top_depth_conv}
use Rattle.hol_model.specs.Rewrites.RenamedBody.{renamed_body}
use Rattle.hol_model.specs.Rewrites.SmallTerms.{is_small}
use Rattle.hol_model.specs.Rewrites.Rewriting.{AnswersRules}
use Rattle.hol_model.specs.Propositional.Tautologies.{tautology_outcome}

-- a refiner without parts; names are of stored theorems
pub data Leaf : Type 0 where
  all_tac : Leaf
  no_tac : Leaf
  accept_tac : List ℕ → Leaf
  assumption_tac : Leaf
  assume_tac : List ℕ → Leaf
  refl_tac : Leaf
  conj_tac : Leaf
  eq_tac : Leaf
  disj1_tac : Leaf
  disj2_tac : Leaf
  disch_tac : Leaf
  gen_tac : Leaf
  exists_tac : NamedTerm → Leaf
  mp_tac : List ℕ → Leaf
  disj_cases_tac : List ℕ → Leaf
  choose_tac : List ℕ → Leaf
  undisch_tac : NamedTerm → Leaf
  conv_tac : Conversion → Leaf
  rewrite_tac : List (List ℕ) → Leaf
  taut_tac : Leaf

-- ---- what a refiner leaves

-- a subgoal: each term with its bound names, or up to them
pub record StatedGoal : Type 0 where
  pub assumptions : List Conclusion
  pub target : Conclusion

-- subgoals, and the justification
pub record StatedStep : Type 0 where
  pub goals : List StatedGoal
  pub justification : Justification

abbrev pub AreConclusions : List Conclusion → List NamedTerm → Type 0
AreConclusions [] [] = Unit {0}
AreConclusions (stated ∷ more) (term ∷ terms) = IsConclusion stated term × AreConclusions more terms
AreConclusions _ _ = ⊥

abbrev pub AreGoals : List StatedGoal → List Goal → Type 0
AreGoals [] [] = Unit {0}
AreGoals (stated ∷ more) (goal ∷ goals) = AreConclusions stated.assumptions goal.assumptions × IsConclusion stated.target goal.target × AreGoals more goals
AreGoals _ _ = ⊥

-- the step is the stated one
pub record IsStep (stated : StatedStep) (step : Step) : Type 0 where
  pub goals : AreGoals stated.goals step.goals
  pub justification : step.justification ≡ stated.justification

-- the goal itself, with further assumptions behind its own, or with another target

abbrev pub from_assumptions : List NamedTerm → List Conclusion → Conclusion → StatedGoal
from_assumptions assumptions more target = record { assumptions = map named assumptions ++ more; target = target }

abbrev pub assuming : Goal → Conclusion → StatedGoal
assuming goal added = from_assumptions goal.assumptions (added ∷ []) (named goal.target)

abbrev pub toward : Goal → Conclusion → StatedGoal
toward goal target = from_assumptions goal.assumptions [] target

-- justifications

abbrev pub from_first : Justification
from_first = tree.sub 0

abbrev pub from_second : Justification
from_second = tree.sub 1

abbrev pub one_part : Justification → Parts
one_part first = part first no_parts

abbrev pub two_parts : Justification → Justification → Parts
two_parts first second = part first (part second no_parts)

abbrev pub three_parts : Justification → Justification → Justification → Parts
three_parts first second third = part first (part second (part third no_parts))

abbrev pub leaves : List StatedGoal → Justification → Result StatedStep Fault
leaves goals justification = Ok (record { goals = goals; justification = justification })

-- the step, where a term that it makes is within the limits
abbrev pub leaves_if_fitting : Nameless → List StatedGoal → Justification → Result StatedStep Fault
leaves_if_fitting made goals justification = unless (nameless_within_limits made) TooLarge (leaves goals justification)

-- ---- tests

-- a variable of this name is free in the term
abbrev pub has_free_name : List ℕ → Nameless → Bool
has_free_name name (free other ty) = bytes_eq name other
has_free_name name (const other ty) = false
has_free_name name (bound index) = false
has_free_name name (app function argument) = has_free_name name function || has_free_name name argument
has_free_name name (lam ty body) = has_free_name name body

-- a free variable of the goal or a constant has the name
abbrev pub is_taken : Theory → Goal → List ℕ → Bool
is_taken theory goal name =
    is_some (generic_type theory name) || list_any (λ term. has_free_name name (image term)) (goal.target ∷ goal.assumptions)

-- so has a variable of this type that is free in a conclusion
abbrev pub is_taken_beside : Theory → Goal → HolType → NamedTerm → List ℕ → Bool
is_taken_beside theory goal ty conclusion name = is_taken theory goal name || occurs_free name ty (image conclusion)

-- ---- the name of a new variable

-- the name of the quantified variable with the fewest primes with which it is not taken
abbrev pub IsFreshFor : Option Abstracted → (Abstracted → List ℕ → Bool) → List ℕ → Type 0
IsFreshFor None taken fresh = Unit {0}
IsFreshFor (Some quantified) taken fresh = IsFirstFree (taken quantified) quantified.name fresh

abbrev pub IsFreshAfter : Theory → Goal → Option Theorem → List ℕ → Type 0
IsFreshAfter theory goal None fresh = Unit {0}
IsFreshAfter theory goal (Some theorem) fresh =
    IsFreshFor (dest_exists theorem.conclusion) (λ quantified. is_taken_beside theory goal quantified.ty theorem.conclusion) fresh

-- what a refiner calls the variable of a quantifier that it takes away; the others call none
abbrev pub IsFresh : Theory → Store → Leaf → Goal → List ℕ → Type 0
IsFresh theory store gen_tac goal fresh = IsFreshFor (dest_forall goal.target) (λ quantified. is_taken theory goal) fresh
IsFresh theory store (choose_tac name) goal fresh = IsFreshAfter theory goal (store.named name) fresh
IsFresh theory store _ goal fresh = Unit {0}

-- ---- the table

-- the theorem of the name, its hypotheses among the assumptions, and what follows of it before and after that test
abbrev pub by_theorem : {A : Type 0} → Store → List ℕ → (Theorem → Result A Fault) → Result A Fault
by_theorem store name next = given (store.named name) UnknownName next

abbrev pub where_assumed : {A : Type 0} → Theorem → Goal → Result A Fault → Result A Fault
where_assumed theorem goal next = unless (are_assumed theorem.hypotheses goal) RefineFails next

-- `p ==> q` becomes q with p assumed, and `~p` becomes `F` with p assumed
abbrev pub discharged : Goal → Option (NamedTerm × NamedTerm) → Option NamedTerm → Result StatedStep Fault
discharged goal (Some sides) negated =
    leaves (from_assumptions goal.assumptions (named sides.0 ∷ []) (named sides.1) ∷ []) (by_rule (rules.Disch sides.0) (one_part from_first))
discharged goal None (Some p) =
    leaves (from_assumptions goal.assumptions (named p ∷ []) (named false_term) ∷ []) (by_rule rules.NotIntro (one_part (by_rule (rules.Disch p) (one_part from_first))))
discharged goal None None = Err BadShape

-- what a refiner leaves of the goal, where a new variable takes this name; those that prove a theorem on the way are not
-- in the table
abbrev pub table : Store → Leaf → Goal → List ℕ → Result StatedStep Fault
table store all_tac goal fresh = leaves (toward goal (named goal.target) ∷ []) from_first
table store no_tac goal fresh = Err RefineFails
-- the goal is a theorem's conclusion
table store (accept_tac name) goal fresh =
    by_theorem store name (λ theorem.
    unless (are_alpha_equivalent theorem.conclusion goal.target) RefineFails
    (where_assumed theorem goal
    (leaves [] (tree.named name))))
-- the goal is an assumption
table store assumption_tac goal fresh =
    unless (is_assumed goal.target goal) RefineFails (leaves [] (by_rule (rules.Assume goal.target) no_parts))
-- a theorem's conclusion is assumed
table store (assume_tac name) goal fresh =
    by_theorem store name (λ theorem.
    where_assumed theorem goal
    (leaves (assuming goal (named theorem.conclusion) ∷ []) (by_rule rules.ProveHyp (two_parts (tree.named name) from_first))))
-- a = a
table store refl_tac goal fresh =
    given (dest_equation goal.target) BadShape (λ sides.
    unless (are_alpha_equivalent sides.0 sides.1) RefineFails
    (leaves [] (by_rule (rules.Refl sides.0) no_parts)))
-- p /\ q becomes p, and q
table store conj_tac goal fresh =
    given (dest_conjunction goal.target) BadShape (λ sides.
    leaves (toward goal (named sides.0) ∷ toward goal (named sides.1) ∷ []) (by_rule rules.Conj (two_parts from_first from_second)))
-- p <=> q becomes p ==> q, and q ==> p; the first has the goal's measures
table store eq_tac goal fresh =
    given (dest_equation goal.target) BadShape (λ sides.
    unless (is_formula sides.0) BadShape
    (leaves_if_fitting (image (implication sides.1 sides.0))
    (toward goal (named (implication sides.0 sides.1)) ∷ toward goal (named (implication sides.1 sides.0)) ∷ [])
    (by_rule rules.DeductAntisym (two_parts (by_rule rules.Undisch (one_part from_second)) (by_rule rules.Undisch (one_part from_first))))))
-- p \/ q becomes p, or q
table store disj1_tac goal fresh =
    given (dest_disjunction goal.target) BadShape (λ sides.
    leaves (toward goal (named sides.0) ∷ []) (by_rule (rules.Disj1 sides.1) (one_part from_first)))
table store disj2_tac goal fresh =
    given (dest_disjunction goal.target) BadShape (λ sides.
    leaves (toward goal (named sides.1) ∷ []) (by_rule (rules.Disj2 sides.0) (one_part from_first)))
table store disch_tac goal fresh = discharged goal (dest_implication goal.target) (dest_negation goal.target)
-- !x. p becomes p with a new variable for x
table store gen_tac goal fresh =
    given (dest_forall goal.target) BadShape (λ quantified.
    let made = body_with quantified (variable fresh quantified.ty) in
    leaves_if_fitting made (toward goal (renamed_body quantified fresh) ∷ []) (by_rule (rules.Gen (variable fresh quantified.ty)) (one_part from_first)))
-- ?x. p becomes p with the witness for x
table store (exists_tac witness) goal fresh =
    given (dest_exists goal.target) BadShape (λ quantified.
    unless (is_of_type quantified.ty witness) TypeMismatch
    (leaves_if_fitting (body_with quantified witness) (toward goal (up_to_names (body_with quantified witness)) ∷ [])
    (by_rule (rules.Exists goal.target witness) (one_part from_first))))
-- q becomes p ==> q, p a theorem's conclusion
table store (mp_tac name) goal fresh =
    by_theorem store name (λ theorem.
    where_assumed theorem goal
    (leaves_if_fitting (image (implication theorem.conclusion goal.target)) (toward goal (named (implication theorem.conclusion goal.target)) ∷ [])
    (by_rule rules.Mp (two_parts from_first (tree.named name)))))
-- a theorem's conclusion is p \/ q: the goal with p assumed, and with q assumed
table store (disj_cases_tac name) goal fresh =
    by_theorem store name (λ theorem.
    given (dest_disjunction theorem.conclusion) BadShape (λ sides.
    where_assumed theorem goal
    (leaves (assuming goal (named sides.0) ∷ assuming goal (named sides.1) ∷ [])
    (by_rule rules.DisjCases (three_parts (tree.named name) from_first from_second)))))
-- a theorem's conclusion is ?x. p: the goal with p assumed of a new variable
table store (choose_tac name) goal fresh =
    by_theorem store name (λ theorem.
    given (dest_exists theorem.conclusion) BadShape (λ quantified.
    where_assumed theorem goal
    (let made = body_with quantified (variable fresh quantified.ty) in
    leaves_if_fitting made (assuming goal (renamed_body quantified fresh) ∷ [])
    (by_rule (rules.Choose (variable fresh quantified.ty)) (two_parts (tree.named name) from_first)))))
-- q becomes p ==> q, p no longer assumed
table store (undisch_tac p) goal fresh =
    unless (is_assumed p goal) RefineFails
    (leaves_if_fitting (image (implication p goal.target))
    (from_assumptions (without_hypothesis p goal.assumptions) [] (named (implication p goal.target)) ∷ [])
    (by_rule rules.Undisch (one_part from_first)))
table store (conv_tac conversion) goal fresh = Err RefineFails
table store (rewrite_tac names) goal fresh = Err RefineFails
table store taut_tac goal fresh = Err RefineFails

-- the refiner is in the table
abbrev pub is_in_table : Leaf → Bool
is_in_table (conv_tac conversion) = false
is_in_table (rewrite_tac names) = false
is_in_table taut_tac = false
is_in_table _ = true

-- the answer is what the table leaves; a refusal does not depend on the new variable's name
abbrev pub AnswersTable : Theory → Store → Leaf → Goal → Result Step Fault → Type 0
AnswersTable theory store leaf goal (Ok step) =
    (fresh : List ℕ) × (stated : StatedStep) × IsFresh theory store leaf goal fresh × (table store leaf goal fresh ≡ Ok stated) × IsStep stated step
AnswersTable theory store leaf goal (Err fault) = (fresh : List ℕ) × (table store leaf goal fresh ≡ Err fault)

-- ---- refiners that prove a theorem on the way, which becomes the lemma with this number

-- by p = p' the goal p becomes p', or nothing where p' is `T`
abbrev pub converted : ℕ → Goal → NamedTerm → StatedStep
converted number goal right =
    if is_true right then record { goals = []; justification = by_rule rules.EqtElim (one_part (tree.lemma number)) }
    else record {
      goals = toward goal (named right) ∷ [];
      justification = by_rule rules.EqMp (two_parts (by_rule rules.Sym (one_part (tree.lemma number))) from_first);
    }

-- the theorem says that the goal's target equals a term
abbrev pub EquatesTarget : Goal → NamedTerm → Theorem → Type 0
EquatesTarget goal right theorem = image theorem.conclusion ≡ nameless_equation bool_type (image goal.target) (image right)

-- the goal is the lemma's conclusion
abbrev pub proved_by_lemma : ℕ → StatedStep
proved_by_lemma number = record { goals = []; justification = tree.lemma number }

-- the theorems of the names, from left to right
abbrev pub theorems_named : Store → List (List ℕ) → Option (List Theorem)
theorems_named store [] = Some []
theorems_named store (name ∷ names) = tree.joined (store.named name) (theorems_named store names)

-- the rules of the theorems, from left to right
abbrev pub AnswersAllRules : List Theorem → Result (List Theorem) Fault → Type 0
AnswersAllRules [] (Ok rules) = rules ≡ []
AnswersAllRules [] (Err fault) = ⊥
AnswersAllRules (theorem ∷ theorems) (Ok rules) =
    (first : List Theorem) × (others : List Theorem) × AnswersRules theorem (Ok first) × AnswersAllRules theorems (Ok others) × (rules ≡ first ++ others)
AnswersAllRules (theorem ∷ theorems) (Err fault) = AnswersRules theorem (Err fault) ⊎ AnswersAllRules theorems (Err fault)

-- the conversion of the goal by which a refiner goes: REWRITE_TAC goes by the rules of its theorems
abbrev pub GoesBy : Store → Leaf → Conversion → Type 0
GoesBy store (conv_tac own) conversion = conversion ≡ own
GoesBy store (rewrite_tac names) conversion =
    (theorems : List Theorem) × (rules : List Theorem) × (theorems_named store names ≡ Some theorems) × AnswersAllRules theorems (Ok rules)
    × (conversion ≡ top_depth_conv (rules_conv rules))
GoesBy store _ conversion = ⊥

-- what a refiner answers that cannot begin: a name stands for nothing, or there is no room for the rules
abbrev pub IsRefusedBefore : Store → Leaf → Fault → Type 0
IsRefusedBefore store (rewrite_tac names) fault =
    ((theorems_named store names ≡ None) × (fault ≡ UnknownName))
    ⊎ ((theorems : List Theorem) × (theorems_named store names ≡ Some theorems) × AnswersAllRules theorems (Err fault))
IsRefusedBefore store _ fault = ⊥

abbrev pub AnswersIfSmall : Bool → Result Stated Fault → Result Theorem Fault → Type 0
AnswersIfSmall small (Ok stated) (Ok theorem) = States stated theorem
AnswersIfSmall small (Err refusal) (Ok theorem) = ⊥
AnswersIfSmall small (Ok stated) (Err fault) = IsWant fault small
AnswersIfSmall small (Err refusal) (Err fault) = (fault ≡ refusal) ⊎ (fault ≡ Memory)

-- a theorem that is stated so, or the refusal; TooLarge may come in a theorem's place only where the term is not small,
-- and Memory in the place of either
abbrev pub AnswersTautology : Theory → NamedTerm → Result Theorem Fault → Type 0
AnswersTautology theory term answer = AnswersIfSmall (is_small (image term)) (tautology_outcome theory term) answer
