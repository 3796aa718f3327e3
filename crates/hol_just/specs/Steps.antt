-- What goals, steps and justifications of the code stand for.
use Rattle.std.specs.Prelude.{◌≡◌, ◌⊎◌, ℕ, List, [], ◌∷◌, length, map, false}
use Rattle.hol_model.specs.declared.fault.Fault.{Fault}
use Rattle.hol_model.specs.declared.fault.Fault.TheVariants.{Memory, TooLarge}
use Rattle.hol_model.specs.Goals.Goals.{Goal}
use Rattle.hol_model.specs.Goals.Justifications.{Justification, Parts, no_parts, part}
use Rattle.hol_model.specs.Goals.ValidSteps.{Step}
use Rattle.hol_model.specs.Goals.Replays.{is_within_depth}
use Rattle.hol_just.specs.Flat.{FlatJustification, FlatPortion, tree}
use Rattle.hol_just.specs.Lines.{flat_of_lines}
use Rattle.hol_just.specs.declared.just.Just.{Just}
use Rattle.hol_just.specs.declared.goal.Goal as code_goal
use Rattle.hol_just.specs.declared.goal.Step as code_step

abbrev pub flat_of : Just → FlatJustification
flat_of just = flat_of_lines just.node.value.lines.items just.node.value.root

-- the tree of a justification
abbrev pub tree_of : Just → Justification
tree_of just = tree (flat_of just)

abbrev pub goal_of : code_goal.Goal → Goal
goal_of goal = record { assumptions = goal.asms.items; target = goal.concl }

abbrev pub goals_of : List code_goal.Goal → List Goal
goals_of goals = map goal_of goals

abbrev pub step_of : code_step.Step → Step
step_of step = record { goals = goals_of step.goals.items; justification = tree_of step.just }

abbrev pub flat_portion : code_step.Step → FlatPortion
flat_portion step = record { subgoals = length step.goals.items; justification = flat_of step.just }

-- the parts, one for each of a list of trees
abbrev pub parts_of : List Justification → Parts
parts_of [] = no_parts
parts_of (first ∷ rest) = part first (parts_of rest)

-- the number of lines
abbrev pub steps_of : Just → ℕ
steps_of just = length just.node.value.lines.items

-- the tree is deeper than the limit
abbrev pub IsTooDeep : Justification → Type 0
IsTooDeep justification = is_within_depth justification ≡ false

-- there is no memory, or the tree is too deep
abbrev pub IsRefused : Justification → Fault → Type 0
IsRefused justification fault = (fault ≡ Memory) ⊎ ((fault ≡ TooLarge) × IsTooDeep justification)
