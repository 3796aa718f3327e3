use Rattle.std.proofs.Common.{◌≡◌, ◌++◌, map, length}
use Rattle.hol_model.specs.Goals.Splicing.{goals_of_steps}
use Rattle.hol_just.specs.Joining.{IsJoined}
use Rattle.hol_just.specs.Steps.{flat_portion, goals_of, step_of}
use Rattle.hol_just.proofs.splicing.spliced_step.Given as goal

abbrev pub invariant-loop-part : goal.invariant-loop-part
invariant-loop-part l =
    IsJoined l.joined (length l.goals.items) (map flat_portion l.part-iterator.rest.items) (map flat_portion l.fn.parts.items)
    × (goals_of l.goals.items ++ goals_of_steps (map step_of l.part-iterator.rest.items) ≡ goals_of_steps (map step_of l.fn.parts.items))
