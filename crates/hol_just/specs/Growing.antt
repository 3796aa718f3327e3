-- What justifications that grow stand for.
use Rattle.std.specs.Prelude.{map}
use Rattle.hol_model.specs.Goals.Justifications.{Justification}
use Rattle.hol_just.specs.Lines.{flat_lines}
use Rattle.hol_just.specs.Steps.{tree_of}
use Rattle.hol_just.specs.Portions.{refined_in_turn, portion_of, FlatFront}
use Rattle.hol_just.specs.declared.front.Front.{Front}
use Rattle.hol_just.specs.declared.growing.Growing.{Growing}

-- the tree of a justification that grows
abbrev pub grown_tree : Growing → Justification
grown_tree growing = refined_in_turn (map portion_of growing.portions.items) (tree_of growing.just)

abbrev pub front_of : Front → FlatFront
front_of front = record { lines = flat_lines front.joined.lines.items; roots = front.joined.roots.items; subgoals = front.subgoals }
