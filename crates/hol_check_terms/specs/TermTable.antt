-- What a table of terms stands for, and what holds of it.
use Rattle.std.specs.Prelude.{◌≡◌, ◌≤◌, ℕ, List, []}
use Rattle.hol_model.specs.Terms.Nameless.{Nameless}
use Rattle.hol_model.specs.Terms.Measures.{nameless_height, nameless_nodes}
use Rattle.hol_model.specs.Logic.Checks.{has_no_free}
use Rattle.hol_model.specs.declared.limits.TheConstants.{TERM_HEIGHT_LIMIT, TERM_NODES_LIMIT}
use Rattle.hol_check_terms.specs.Table.{values_after, HaveOneNumber, HoldsOfEach}
use Rattle.hol_check_terms.specs.Types.{TypeTable}
use Rattle.hol_check_terms.specs.Terms.{TermTable, term_at, term_of_node, TermStandsAfterParts}
use Rattle.hol_check_terms.specs.Loose.{binders_needed}
use Rattle.hol_check_terms.specs.Typed.{AreTyped}
use Rattle.hol_check_terms.specs.declared.terms.TermNode.{TermNode}
use Rattle.hol_check_terms.specs.declared.terms.Terms.TheInside.{Inside}

abbrev pub terms_of : TypeTable → List TermNode → List Nameless
terms_of table nodes = values_after (term_of_node table) [] nodes

abbrev pub viewed_terms : Inside → TermTable
viewed_terms inside = record { names = inside.types.names; types = inside.types.types; terms = terms_of inside.types inside.nodes.keys }

-- the measures of a node are those of a term, and within the limits
pub record Measures (node : TermNode) (term : Nameless) : Type 0 where
  pub height : node.height ≡ nameless_height term
  pub nodes : node.nodes ≡ nameless_nodes term
  pub needed : node.needed ≡ binders_needed term
  pub no_free : node.no_free ≡ has_no_free term
  pub height_fits : node.height ≤ TERM_HEIGHT_LIMIT
  pub nodes_fit : node.nodes ≤ TERM_NODES_LIMIT

-- the nodes of terms, over names and types
pub record AreTermNodes (table : TypeTable) (nodes : List TermNode) : Type 0 where
  pub placed : HoldsOfEach (TermStandsAfterParts table) nodes
  pub measured : HoldsOfEach (λ place node. Measures node (term_at (terms_of table nodes) place)) nodes
  pub distinct : HaveOneNumber (terms_of table nodes)

-- the same, and terms whose types are kept
pub record AreTerms (table : TypeTable) (nodes : List TermNode) (typed : List (ℕ × ℕ)) : Type 0 where
  pub nodes_are : AreTermNodes table nodes
  pub typed_are : AreTyped table.types (terms_of table nodes) typed

abbrev pub IsTermTable : Inside → Type 0
IsTermTable inside = AreTerms inside.types inside.nodes.keys inside.typed.entries
