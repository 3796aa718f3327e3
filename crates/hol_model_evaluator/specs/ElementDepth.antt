-- Each element of a table has fewer nodes than the table.
use Rattle.std.specs.Prelude.{◌+◌, ◌≤◌, max, List, [], ◌∷◌}
use Rattle.std.proofs.Common.{arith}
use denote.Param.Weighed.{most}
use Rattle.hol_model.specs.Models.Values.{Value, values_of}
use Rattle.hol_model_evaluator.specs.ValueCode.{value_nodes, values_nodes}
use Rattle.hol_model_evaluator.specs.ElementNodes.{value_of_node}
use Rattle.hol_model_evaluator.specs.declared.element.ElementNode.{ElementNode}
use Rattle.hol_model_evaluator.specs.declared.element.ElementNode.TheVariants.{Number, Table}
use Rattle.hol_model_evaluator.specs.declared.element.Element.TheDeep.{deep-ElementNode}

most_le-values_nodes : (vs : List Value) → most (λ v. value_nodes v + 1) vs ≤ values_nodes (values_of vs) + 1
most_le-values_nodes [] = omega arith
most_le-values_nodes (v ∷ vs) = omega (arith, most_le-values_nodes vs)

pub depth_le-value_nodes : (n : ElementNode) → max (deep-ElementNode n) 0 ≤ value_nodes (value_of_node n)
depth_le-value_nodes (Number n) = omega arith
depth_le-value_nodes (Table elements) = omega (arith, most_le-values_nodes elements.items)
