-- What a node of an element stands for.
use Rattle.hol_model.specs.Models.Values.{Value, number, table}
use Rattle.hol_model_evaluator.specs.declared.element.ElementNode.{ElementNode}
use Rattle.hol_model_evaluator.specs.declared.element.ElementNode.TheVariants.{Number, Table}

abbrev pub value_of_node : ElementNode → Value
value_of_node (Number n) = number n
value_of_node (Table elements) = table elements.items
