-- What nodes of types denote.
use Rattle.std.specs.Prelude.{ℕ, ◌<◌, List, [], length}
use Rattle.std.specs.List.{slice_index_or}
use Rattle.hol_model.specs.Terms.HolType.{HolType, type_variable, bool_type, function_type, declared_type}
use Rattle.hol_check_terms.specs.declared.types.TypeShape.{TypeShape}
use Rattle.hol_check_terms.specs.declared.types.TypeShape.TheVariants.{Variable, Boolean, Function, Declared}
use Rattle.hol_check_terms.specs.declared.types.TypeNode.{TypeNode}

abbrev pub type_of_shape : List (List ℕ) → List HolType → TypeShape → HolType
type_of_shape names types (Variable name) = type_variable (slice_index_or names name [])
type_of_shape names types Boolean = bool_type
type_of_shape names types (Function a b) = function_type (slice_index_or types a bool_type) (slice_index_or types b bool_type)
type_of_shape names types (Declared name) = declared_type (slice_index_or names name [])

abbrev pub type_of_node : List (List ℕ) → List HolType → TypeNode → HolType
type_of_node names types node = type_of_shape names types node.shape

-- the parts of a type stand before a place
abbrev pub PartsStandBefore : List (List ℕ) → ℕ → TypeShape → Type 0
PartsStandBefore names place (Variable name) = name < length names
PartsStandBefore names place Boolean = Unit {0}
PartsStandBefore names place (Function a b) = (a < place) × (b < place)
PartsStandBefore names place (Declared name) = name < length names

abbrev pub StandsAfterParts : List (List ℕ) → ℕ → TypeNode → Type 0
StandsAfterParts names place node = PartsStandBefore names place node.shape

-- names and types by their numbers
pub record TypeTable : Type 0 where
  pub names : List (List ℕ)
  pub types : List HolType
