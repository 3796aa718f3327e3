-- What a table of types stands for, and what holds of it.
use Rattle.std.specs.Prelude.{◌≡◌, ◌≤◌, ℕ, List, []}
use Rattle.std.specs.List.{slice_index_or}
use Rattle.hol_model.specs.Terms.HolType.{HolType, bool_type, type_nodes}
use Rattle.hol_model.specs.declared.limits.TheConstants.{TYPE_NODES_LIMIT}
use Rattle.hol_check_terms.specs.Table.{values_after, HaveOneNumber, HoldsOfEach}
use Rattle.hol_check_terms.specs.Types.{TypeTable, type_of_node, StandsAfterParts}
use Rattle.hol_check_terms.specs.declared.types.TypeNode.{TypeNode}
use Rattle.hol_check_terms.specs.declared.types.Types.TheInside.{Inside}

abbrev pub types_of : List (List ℕ) → List TypeNode → List HolType
types_of names nodes = values_after (type_of_node names) [] nodes

abbrev pub viewed_types : Inside → TypeTable
viewed_types table = record { names = table.names; types = types_of table.names table.nodes.keys }

-- the nodes of types, over names
pub record AreTypeNodes (names : List (List ℕ)) (nodes : List TypeNode) : Type 0 where
  pub placed : HoldsOfEach (StandsAfterParts names) nodes
  pub counted : HoldsOfEach (λ place node. node.count ≡ type_nodes (slice_index_or (types_of names nodes) place bool_type)) nodes
  pub within_limit : HoldsOfEach (λ place node. node.count ≤ TYPE_NODES_LIMIT) nodes
  pub distinct : HaveOneNumber (types_of names nodes)

abbrev pub IsTypeTable : Inside → Type 0
IsTypeTable table = AreTypeNodes table.names table.nodes.keys
