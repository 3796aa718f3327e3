-- What nodes of terms denote.
use Rattle.std.specs.Prelude.{ℕ, ◌⊎◌, ◌<◌, List, [], length}
use Rattle.std.specs.List.{slice_index_or}
use Rattle.hol_model.specs.Terms.HolType.{HolType, bool_type}
use Rattle.hol_model.specs.Terms.Nameless.{Nameless, free, const, bound, app, lam}
use Rattle.hol_check_terms.specs.declared.terms.TermShape.{TermShape}
use Rattle.hol_check_terms.specs.declared.terms.TermShape.TheVariants.{Free, Constant, Bound, Application, Abstraction}
use Rattle.hol_check_terms.specs.declared.terms.TermNode.{TermNode}
use Rattle.hol_model.specs.Terms.Measures.{nameless_height, nameless_nodes}
use Rattle.hol_model.specs.declared.limits.TheConstants.{TERM_HEIGHT_LIMIT, TERM_NODES_LIMIT}
use Rattle.hol_check_terms.specs.Growth.{IsLonger}
use Rattle.hol_check_terms.specs.Types.{TypeTable}

-- names, types and terms by their numbers
pub record TermTable : Type 0 where
  pub names : List (List ℕ)
  pub types : List HolType
  pub terms : List Nameless

abbrev pub name_at : List (List ℕ) → ℕ → List ℕ
name_at names number = slice_index_or names number []

abbrev pub type_at : List HolType → ℕ → HolType
type_at types number = slice_index_or types number bool_type

abbrev pub term_at : List Nameless → ℕ → Nameless
term_at terms number = slice_index_or terms number (bound 0)

abbrev pub term_of_shape : TypeTable → List Nameless → TermShape → Nameless
term_of_shape table terms (Free name ty) = free (name_at table.names name) (type_at table.types ty)
term_of_shape table terms (Constant name ty) = const (name_at table.names name) (type_at table.types ty)
term_of_shape table terms (Bound index) = bound index
term_of_shape table terms (Application function argument) = app (term_at terms function) (term_at terms argument)
term_of_shape table terms (Abstraction ty body) = lam (type_at table.types ty) (term_at terms body)

abbrev pub term_of_node : TypeTable → List Nameless → TermNode → Nameless
term_of_node table terms node = term_of_shape table terms node.shape

-- the parts of a term stand before a place
abbrev pub TermPartsStandBefore : TypeTable → ℕ → TermShape → Type 0
TermPartsStandBefore table place (Free name ty) = (name < length table.names) × (ty < length table.types)
TermPartsStandBefore table place (Constant name ty) = (name < length table.names) × (ty < length table.types)
TermPartsStandBefore table place (Bound index) = Unit {0}
TermPartsStandBefore table place (Application function argument) = (function < place) × (argument < place)
TermPartsStandBefore table place (Abstraction ty body) = (ty < length table.types) × (body < place)

abbrev pub TermStandsAfterParts : TypeTable → ℕ → TermNode → Type 0
TermStandsAfterParts table place node = TermPartsStandBefore table place node.shape

abbrev pub type_table : TermTable → TypeTable
type_table table = record { names = table.names; types = table.types }

-- numbers keep what they name
pub record IsGrown (earlier now : TermTable) : Type 0 where
  pub names : IsLonger earlier.names now.names
  pub types : IsLonger earlier.types now.types
  pub terms : IsLonger earlier.terms now.terms

-- the term passes a limit on height or nodes
abbrev pub IsTooLarge : Nameless → Type 0
IsTooLarge term = (TERM_HEIGHT_LIMIT < nameless_height term) ⊎ (TERM_NODES_LIMIT < nameless_nodes term)
