-- The sequents that hold in every finite standard model.
use Rattle.std.specs.Prelude.{◌≡◌, ℕ, List, [], ◌∷◌}
use Rattle.hol_model.specs.Terms.HolType.{HolType}
use Rattle.hol_model.specs.Terms.Nameless.{Nameless}
use Rattle.hol_model.specs.Logic.Theory.{Theory, definition, declaration_of_type, declaration_of_constant}
use Rattle.hol_model.specs.Logic.Derivable.{IsMember}
use Rattle.hol_model.specs.Models.Values.{Value, truth}
use Rattle.hol_model.specs.Models.Tables.{first_of}
use Rattle.hol_model.specs.Models.Models.{Model, carrier, term_meaning}

-- no element stands in the list twice
abbrev pub IsDistinct : {A : Type 0} → List A → Type 0
IsDistinct [] = Unit {0}
IsDistinct (x ∷ xs) = (¬ (IsMember x xs)) × IsDistinct xs

-- each declared constant means a member of its type
abbrev pub HasConstants : Theory → Model → Type 0
HasConstants [] model = Unit {0}
HasConstants (definition name ty body ∷ rest) model = HasConstants rest model
HasConstants (declaration_of_type name ∷ rest) model = HasConstants rest model
HasConstants (declaration_of_constant name ty ∷ rest) model = IsMember (model.declared_constants name) (carrier model ty) × HasConstants rest model

-- values that can be the carrier of a type
pub record IsCarrier (values : List Value) : Type 0 where
  pub inhabited : IsMember (first_of values) values
  pub distinct : IsDistinct values

-- a finite standard model of a theory's declarations
pub record IsModel (theory : Theory) (model : Model) : Type 0 where
  pub variables : (name : List ℕ) → IsCarrier (model.type_variables name)
  pub declared : (name : List ℕ) → IsCarrier (model.declared_types name)
  pub members : (name : List ℕ) (ty : HolType) → IsMember (model.free_variables name ty) (carrier model ty)
  pub constants : HasConstants theory model

-- each of the terms is true
abbrev pub AllTrue : Theory → Model → List Nameless → Type 0
AllTrue theory model terms = (term : Nameless) → IsMember term terms → term_meaning theory model term ≡ truth

-- in every finite standard model where the hypotheses are true, the conclusion is
abbrev pub Holds : Theory → List Nameless → Nameless → Type 0
Holds theory hypotheses conclusion =
    (model : Model) → IsModel theory model → AllTrue theory model hypotheses → term_meaning theory model conclusion ≡ truth
