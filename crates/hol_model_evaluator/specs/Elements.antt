-- What the parts of an element stand for.
use Rattle.hol_model.specs.Models.Values.{Value, number, table}
use Rattle.hol_model_evaluator.specs.declared.element.ElementParts.{ElementParts}
use Rattle.hol_model_evaluator.specs.declared.element.ElementParts.TheVariants.{Number, Table}

abbrev pub value_of_parts : ElementParts → Value
value_of_parts (Number n) = number n
value_of_parts (Table elements) = table elements.now
