-- A discrimination tree: edges from node to node, which a pattern's symbols lead along, and the patterns that end at a node.
use Rattle.std.specs.Prelude.{◌≡◌, ℕ, zero, suc, ◌<◌, ◌≤◌, List, [], ◌∷◌, ◌++◌, Bool, true, false, ◌&&◌, Option, Some, None, length, slice_get, nat_eq}
use Rattle.std.specs.List.{flat_map}
use Rattle.std.specs.Option.{option_and_then, option_map, option_map_or}
use Rattle.std.specs.declared.alloc.Global.{Global}
use Rattle.std.specs.declared.vec.Vec.{Vec}
use Rattle.indexmap.specs.IndexMap.{get_by, get_by_text}
use Rattle.hol_model.specs.Logic.Derivable.{IsMember}
use Rattle.hol_model.specs.Terms.NamedTerm.{NamedTerm, variable, constant, combination, abstraction}
use Rattle.hol_net.specs.declared.tree.Edge.{Edge}
use Rattle.hol_net.specs.declared.tree.Symbol.{Symbol}
use Rattle.hol_net.specs.declared.tree.Symbol.TheVariants.{Variable, Constant, Combination, Abstraction}
use Rattle.hol_net.specs.declared.tree.Tree.{Tree}

abbrev pub symbol_eq : Symbol → Symbol → Bool
symbol_eq Variable Variable = true
symbol_eq (Constant a) (Constant b) = nat_eq a b
symbol_eq Combination Combination = true
symbol_eq Abstraction Abstraction = true
symbol_eq _ _ = false

abbrev pub edge_eq : Edge → Edge → Bool
edge_eq a b = nat_eq a.from b.from && symbol_eq a.symbol b.symbol

-- a step along an edge
abbrev pub Steps : Type 0
Steps = ℕ → Symbol → Option ℕ

-- the symbols of constants
abbrev pub Symbols : Type 0
Symbols = List ℕ → Option Symbol

abbrev pub step_by : Steps → ℕ → Option Symbol → Option ℕ
step_by steps from None = None
step_by steps from (Some symbol) = steps from symbol

-- the node to which an edge leads, if there is one
abbrev pub child : Option ℕ → List ℕ
child None = []
child (Some to) = to ∷ []

-- the nodes to which patterns that fit the term lead from a node
abbrev pub nodes_after : Steps → Symbols → ℕ → NamedTerm → List ℕ
nodes_after steps symbols from (variable name ty) = child (steps from Variable)
nodes_after steps symbols from (constant name ty) = child (steps from Variable) ++ child (step_by steps from (symbols name))
nodes_after steps symbols from (combination function argument) =
    child (steps from Variable)
    ++ option_map_or (λ head. flat_map (λ next. nodes_after steps symbols next argument) (nodes_after steps symbols head function)) (steps from Combination) []
nodes_after steps symbols from (abstraction name ty body) = child (steps from Variable) ++ child (steps from Abstraction)

-- the node to which a pattern leads
abbrev pub node_after : Steps → Symbols → ℕ → NamedTerm → Option ℕ
node_after steps symbols from (variable name ty) = steps from Variable
node_after steps symbols from (constant name ty) = step_by steps from (symbols name)
node_after steps symbols from (combination function argument) =
    option_and_then (λ middle. option_and_then (λ next. node_after steps symbols next argument) (node_after steps symbols middle function)) (steps from Combination)
node_after steps symbols from (abstraction name ty body) = steps from Abstraction

-- the steps and the symbols of a tree
abbrev pub steps_of : Tree → Steps
steps_of tree from symbol = get_by (edge_eq (record { from = from; symbol = symbol })) tree.edges

abbrev pub symbols_of : Tree → Symbols
symbols_of tree name = option_map Constant (get_by_text tree.names name)

-- the places of the patterns that end at a node
abbrev pub places_at : List (Vec ℕ Global) → ℕ → List ℕ
places_at [] node = []
places_at (places ∷ rest) zero = places.items
places_at (places ∷ rest) (suc node) = places_at rest node

-- the places of the patterns that end at some nodes
abbrev pub all_places : List (Vec ℕ Global) → List ℕ → List ℕ
all_places ends [] = []
all_places ends (node ∷ nodes) = places_at ends node ++ all_places ends nodes

-- there is a root, and each edge leads to a node
pub record IsTree (tree : Tree) : Type 0 where
  pub root : 0 < length tree.ends.items
  pub leads : (from : ℕ) (symbol : Symbol) (to : ℕ) → steps_of tree from symbol ≡ Some to → to < length tree.ends.items

-- what is in a tree stays
pub record Grows (old new : Tree) : Type 0 where
  pub steps : (from : ℕ) (symbol : Symbol) (to : ℕ) → steps_of old from symbol ≡ Some to → steps_of new from symbol ≡ Some to
  pub symbols : (name : List ℕ) (symbol : Symbol) → symbols_of old name ≡ Some symbol → symbols_of new name ≡ Some symbol
  pub places : (node place : ℕ) → IsMember place (places_at old.ends.items node) → IsMember place (places_at new.ends.items node)
  pub nodes : length old.ends.items ≤ length new.ends.items

-- the pattern of each place leads from the root to a node where it ends
pub record Ends (tree : Tree) (pattern : NamedTerm) (place : ℕ) : Type 0 where
  pub node : ℕ
  pub leads : node_after (steps_of tree) (symbols_of tree) 0 pattern ≡ Some node
  pub ends : IsMember place (places_at tree.ends.items node)

pub record Holds (tree : Tree) (patterns : List NamedTerm) : Type 0 where
  pub each : (place : ℕ) (pattern : NamedTerm) → slice_get patterns place ≡ Some pattern → Ends tree pattern place
