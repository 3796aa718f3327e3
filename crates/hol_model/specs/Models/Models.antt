-- Finite standard models: the values of each type and the meaning of each known term.
use Rattle.std.specs.Prelude.{ℕ, zero, suc, List, [], ◌∷◌, map, Option, Some, None, if◌then◌else◌}
use Rattle.std.specs.Str.{bytes_eq}
use Rattle.hol_model.specs.Terms.HolType.{HolType, type_variable, bool_type, function_type, declared_type, domain_of, codomain_of, part_at}
use Rattle.hol_model.specs.Terms.Nameless.{Nameless, free, const, bound, app, lam, nameless_type}
use Rattle.hol_model.specs.Logic.Theory.{Theory, definition, declaration_of_type, declaration_of_constant, equality_name, choice_name}
use Rattle.hol_model.specs.Models.Values.{Value, number, table, falsity, truth}
use Rattle.hol_model.specs.Models.Tables.{first_of, look_up, tabulate, each_row, equality_table, choice_table}

-- the values of a type, from those of type variables and of declared types
abbrev pub carrier_over : (List ℕ → List Value) → (List ℕ → List Value) → HolType → List Value
carrier_over variables declared (type_variable name) = variables name
carrier_over variables declared bool_type = falsity ∷ truth ∷ []
carrier_over variables declared (function_type a b) = map table (each_row (carrier_over variables declared a) (carrier_over variables declared b))
carrier_over variables declared (declared_type name) = declared name

-- values for type variables, declared types, free variables and declared constants
pub record Model : Type 0 where
  pub type_variables : List ℕ → List Value
  pub declared_types : List ℕ → List Value
  pub free_variables : List ℕ → HolType → Value
  pub declared_constants : List ℕ → Value

-- the values of a type
abbrev pub carrier : Model → HolType → List Value
carrier model ty = carrier_over model.type_variables model.declared_types ty

-- the values of a part of an instance; those of a type variable that is not there are the number 0 alone
abbrev pub part_carrier : Model → Option HolType → List Value
part_carrier model (Some ty) = carrier model ty
part_carrier model None = number 0 ∷ []

-- the model that an instance of a generic type gives to a definition's body
abbrev pub instance_model : HolType → HolType → Model → Model
instance_model generic ty model = record {
  type_variables = λ name. part_carrier model (part_at generic ty name);
  declared_types = model.declared_types;
  free_variables = λ name a. first_of (carrier_over (λ variable. part_carrier model (part_at generic ty variable)) model.declared_types a);
  declared_constants = model.declared_constants;
}

-- the value of a binder, or the number 0 where there is no such binder
abbrev pub binder_value : List Value → ℕ → Value
binder_value [] index = number 0
binder_value (v ∷ vs) zero = v
binder_value (v ∷ vs) (suc index) = binder_value vs index

-- the meaning of a term, from the meaning of constants, under binders of these types and values
abbrev pub meaning : (List ℕ → HolType → Value) → Model → List HolType → List Value → Nameless → Value
meaning constants model binders values (free name ty) = model.free_variables name ty
meaning constants model binders values (const name ty) = constants name ty
meaning constants model binders values (bound index) = binder_value values index
meaning constants model binders values (app function argument) =
    look_up (carrier model (domain_of (nameless_type binders function))) (meaning constants model binders values function) (meaning constants model binders values argument)
meaning constants model binders values (lam ty body) =
    tabulate (carrier model ty) (λ v. meaning constants model (ty ∷ binders) (v ∷ values) body)

-- the meaning of equality, of choice, and of names that stand for nothing
abbrev pub logical_constant : Model → List ℕ → HolType → Value
logical_constant model name ty =
    if bytes_eq equality_name name then equality_table (carrier model (domain_of ty))
    else (if bytes_eq choice_name name then choice_table (carrier model (codomain_of ty)) (carrier model (domain_of ty)) else number 0)

-- the meaning of a constant at a type: a defined one means its body, in the model that the instance of its generic type gives
abbrev pub constant_meaning : Theory → Model → List ℕ → HolType → Value
constant_meaning [] model name ty = logical_constant model name ty
constant_meaning (definition other generic body ∷ rest) model name ty =
    if bytes_eq other name
    then (let at = instance_model generic ty model in meaning (constant_meaning rest at) at [] [] body)
    else constant_meaning rest model name ty
constant_meaning (declaration_of_type other ∷ rest) model name ty = constant_meaning rest model name ty
constant_meaning (declaration_of_constant other generic ∷ rest) model name ty =
    if bytes_eq other name then model.declared_constants other else constant_meaning rest model name ty

-- the meaning of a term outside all binders
abbrev pub term_meaning : Theory → Model → Nameless → Value
term_meaning theory model term = meaning (constant_meaning theory model) model [] [] term
