-- The models that interpretations stand for.
use Rattle.std.specs.Prelude.{ℕ, ◌+◌, List, [], ◌∷◌, if◌then◌else◌}
use Rattle.std.specs.Str.{bytes_eq}
use Rattle.hol_model.specs.Terms.HolType.{HolType, type_nodes}
use Rattle.hol_model.specs.Terms.NamedTerm.{same_variable}
use Rattle.hol_model.specs.Models.Values.{Value, number}
use Rattle.hol_model.specs.Models.Tables.{first_of}
use Rattle.hol_model.specs.Models.Models.{Model, carrier_over, instance_model}
use Rattle.hol_model_evaluator.specs.Trees.{hol_type}
use Rattle.hol_model_evaluator.specs.declared.interpretation.NamedCarrier.{NamedCarrier}
use Rattle.hol_model_evaluator.specs.declared.interpretation.VariableElement.{VariableElement}
use Rattle.hol_model_evaluator.specs.declared.interpretation.ConstantElement.{ConstantElement}
use Rattle.hol_model_evaluator.specs.declared.interpretation.Choices.{Choices}
use Rattle.hol_model_evaluator.specs.declared.interpretation.Interpretation.{Interpretation, Given, Instance'}

-- the carrier of a name: the first that is listed, or the number 0 alone
abbrev pub carrier_named : List NamedCarrier → List ℕ → List Value
carrier_named [] name = number 0 ∷ []
carrier_named (first ∷ rest) name = if bytes_eq first.name.now name then first.elements.items else carrier_named rest name

-- the value of a free variable: the first that is listed, or another
abbrev pub variable_value : List VariableElement → List ℕ → HolType → Value → Value
variable_value [] name ty other = other
variable_value (first ∷ rest) name ty other =
    if same_variable first.name.now (hol_type first.ty.now) name ty then first.element else variable_value rest name ty other

-- the value of a declared constant: the first that is listed, or the number 0
abbrev pub constant_value : List ConstantElement → List ℕ → Value
constant_value [] name = number 0
constant_value (first ∷ rest) name = if bytes_eq first.name.now name then first.element else constant_value rest name

-- the model of some choices
abbrev pub model_of_choices : Choices → Model
model_of_choices choices = record {
  type_variables = carrier_named choices.type_variables.now;
  declared_types = carrier_named choices.declared_types.now;
  free_variables =
      λ name ty. variable_value choices.free_variables.now name ty
      (first_of (carrier_over (carrier_named choices.type_variables.now) (carrier_named choices.declared_types.now) ty));
  declared_constants = constant_value choices.declared_constants.now;
}

abbrev pub model_of : Interpretation → Model
model_of (Given choices) = model_of_choices choices.now
model_of (Instance' generic ty p outer) = instance_model (hol_type generic.now) (hol_type ty.now) (model_of outer)

-- how many nodes the instances have
abbrev pub instance_nodes : Interpretation → ℕ
instance_nodes (Given choices) = 0
instance_nodes (Instance' generic ty p outer) = type_nodes (hol_type ty.now) + instance_nodes outer
