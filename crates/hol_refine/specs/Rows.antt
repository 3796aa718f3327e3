-- What rows of the table leave, where the parts of the goal or of the theorem have names.
use Rattle.std.specs.Prelude.{List, ℕ, [], ◌∷◌, Result}
use Rattle.hol_model.specs.declared.fault.Fault.{Fault}
use Rattle.hol_model.specs.Terms.NamedTerm.{NamedTerm, variable}
use Rattle.hol_model.specs.Terms.Nameless.{image}
use Rattle.hol_model.specs.Logic.NamedLogic.{Abstracted, false_term, implication}
use Rattle.hol_model.specs.Kernel.Theorem.{without_hypothesis}
use Rattle.hol_model.specs.Derived.DerivedRules.{named, up_to_names, body_with}
use Rattle.hol_model.specs.declared.rule.Rule.TheVariants as rules
use Rattle.hol_model.specs.Goals.Goals.{Goal}
use Rattle.hol_model.specs.Goals.Justifications as tree
use Rattle.hol_model.specs.Goals.Justifications.{by_rule}
use Rattle.hol_model.specs.Rewrites.RenamedBody.{renamed_body}
use Rattle.hol_model.specs.Refining.Refiners.{StatedGoal, StatedStep, from_assumptions, assuming, toward, from_first, from_second, one_part, two_parts, three_parts, leaves, leaves_if_fitting}

-- subgoals with these targets
abbrev pub two_targets : Goal → NamedTerm → NamedTerm → List StatedGoal
two_targets goal p q = toward goal (named p) ∷ toward goal (named q) ∷ []

-- the goal with the one assumed, and with the other
abbrev pub two_cases : Goal → NamedTerm → NamedTerm → List StatedGoal
two_cases goal p q = assuming goal (named p) ∷ assuming goal (named q) ∷ []

-- p, and q, by CONJ
abbrev pub both : Goal → NamedTerm → NamedTerm → Result StatedStep Fault
both goal p q = leaves (two_targets goal p q) (by_rule rules.Conj (two_parts from_first from_second))

-- q with p assumed, by DISCH
abbrev pub discharged : Goal → NamedTerm → NamedTerm → Result StatedStep Fault
discharged goal p q = leaves (from_assumptions goal.assumptions (named p ∷ []) (named q) ∷ []) (by_rule (rules.Disch p) (one_part from_first))

-- `F` with p assumed, by NOT_INTRO of DISCH
abbrev pub refuted : Goal → NamedTerm → Result StatedStep Fault
refuted goal p =
    leaves (from_assumptions goal.assumptions (named p ∷ []) (named false_term) ∷ []) (by_rule rules.NotIntro (one_part (by_rule (rules.Disch p) (one_part from_first))))

-- p ==> q for the goal q, p a theorem's conclusion, by MP
abbrev pub implied : Goal → List ℕ → NamedTerm → Result StatedStep Fault
implied goal name p =
    leaves_if_fitting (image (implication p goal.target)) (toward goal (named (implication p goal.target)) ∷ [])
    (by_rule rules.Mp (two_parts from_first (tree.named name)))

-- p ==> q for the goal q, p no longer assumed, by UNDISCH
abbrev pub undischarged : Goal → NamedTerm → Result StatedStep Fault
undischarged goal p =
    leaves_if_fitting (image (implication p goal.target))
    (from_assumptions (without_hypothesis p goal.assumptions) [] (named (implication p goal.target)) ∷ [])
    (by_rule rules.Undisch (one_part from_first))

-- by DEDUCT_ANTISYM of UNDISCH of each of two implications
abbrev pub by_both_ways : tree.Justification
by_both_ways = by_rule rules.DeductAntisym (two_parts (by_rule rules.Undisch (one_part from_second)) (by_rule rules.Undisch (one_part from_first)))

-- p ==> q, and q ==> p
abbrev pub both_ways : Goal → NamedTerm → NamedTerm → Result StatedStep Fault
both_ways goal p q =
    leaves_if_fitting (image (implication q p)) (two_targets goal (implication p q) (implication q p)) by_both_ways

-- the goal with p assumed, and with q assumed, by DISJ_CASES of a theorem
abbrev pub split : Goal → List ℕ → NamedTerm → NamedTerm → Result StatedStep Fault
split goal name p q =
    leaves (two_cases goal p q) (by_rule rules.DisjCases (three_parts (tree.named name) from_first from_second))

-- the body with a witness for the variable, by EXISTS
abbrev pub witnessed : Goal → Abstracted → NamedTerm → Result StatedStep Fault
witnessed goal at witness =
    leaves_if_fitting (body_with at witness) (toward goal (up_to_names (body_with at witness)) ∷ [])
    (by_rule (rules.Exists goal.target witness) (one_part from_first))

-- the body with a new variable, by GEN
abbrev pub generalized : Goal → Abstracted → List ℕ → Result StatedStep Fault
generalized goal at fresh =
    leaves_if_fitting (body_with at (variable fresh at.ty)) (toward goal (renamed_body at fresh) ∷ [])
    (by_rule (rules.Gen (variable fresh at.ty)) (one_part from_first))

-- the body of a theorem's conclusion, assumed of a new variable, by CHOOSE
abbrev pub chosen : Goal → List ℕ → Abstracted → List ℕ → Result StatedStep Fault
chosen goal name at fresh =
    leaves_if_fitting (body_with at (variable fresh at.ty)) (assuming goal (renamed_body at fresh) ∷ [])
    (by_rule (rules.Choose (variable fresh at.ty)) (two_parts (tree.named name) from_first))
