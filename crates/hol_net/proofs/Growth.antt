-- A tree grows by edges, names and places of patterns; what leads to a node goes on to lead there.
use Rattle.std.proofs.Common.{◌≡◌, ◌⊎◌, inl, inr, cond, ℕ, zero, suc, ◌<◌, List, [], ◌∷◌, ◌++◌, Bool, true, false, ◌&&◌, refl, sym, ◌∙◌, ap, subst, Option, Some, None, arith, length}
use Rattle.std.specs.Option.{option_and_then, option_map}
use Rattle.std.specs.Prelude.{nat_eq, slice_set, slice_index_or}
use Rattle.hol_model.proofs.Terms.Membership.{IsMember-append_left}
use Rattle.std.specs.Map.{update}
use Rattle.std.specs.Str.{bytes_eq}
use Rattle.std.specs.declared.alloc.Global.{Global}
use Rattle.std.specs.declared.vec.Vec.{Vec}
use Rattle.std.proofs.lemmas.Slice.Eq.{bytes_eq-Decides}
use Rattle.std.proofs.lemmas.Bool.Decides.{nat_tests}
use Rattle.hol_model.proofs.Logic.Conditions.{first_of_both, second_of_both}
use Rattle.std.specs.HashMap.{HashMap, get, get_by}
use Rattle.hol_net.specs.contracts.tree.SymbolPartialEq.TheImpl as symbol
use Rattle.hol_net.specs.contracts.tree.EdgePartialEq.TheImpl as edge
use Rattle.hol_net.specs.declared.tree.Edge.{Edge}
use Rattle.hol_model.specs.Logic.Derivable.{IsMember}
use Rattle.hol_model.specs.Terms.NamedTerm.{NamedTerm, variable, constant, combination, abstraction}
use Rattle.hol_net.specs.declared.tree.Symbol.{Symbol}
use Rattle.hol_net.specs.declared.tree.Symbol.TheVariants.{Variable, Constant, Combination, Abstraction}
use Rattle.hol_net.specs.declared.tree.Tree.{Tree}
use Rattle.hol_net.specs.Tree.{symbol_eq, edge_eq, step_by, steps_of, symbols_of, node_after, places_at, IsTree, Grows}

pub grows_same : (tree : Tree) → Grows tree tree
grows_same tree = record { steps = λ from symbol to is. is; symbols = λ name symbol is. is; places = λ node place is. is; nodes = omega arith }

pub grows_then : {old middle new : Tree} → Grows old middle → Grows middle new → Grows old new
grows_then first second = record {
  steps = λ from symbol to is. second.steps from symbol to (first.steps from symbol to is);
  symbols = λ name symbol is. second.symbols name symbol (first.symbols name symbol is);
  places = λ node place is. second.places node place (first.places node place is);
  nodes = omega (arith, first.nodes, second.nodes);
}

-- a pattern goes on to lead where it led
step_grows : (old new : Tree) → Grows old new → (from : ℕ) (symbol later : Option Symbol) (to : ℕ)
    → ((s : Symbol) → symbol ≡ Some s → later ≡ Some s) → step_by (steps_of old) from symbol ≡ Some to → step_by (steps_of new) from later ≡ Some to
step_grows old new grows from None later to kept is = cc
step_grows old new grows from (Some symbol) later to kept is = rw (kept symbol refl) (grows.steps from symbol to is)

both : {A B : Type 0} (first : Option A) (f : A → Option B) (g : A → Option B) (later : Option A) (to : B)
    → ((x : A) → first ≡ Some x → later ≡ Some x) → ((x : A) → f x ≡ Some to → g x ≡ Some to) → option_and_then f first ≡ Some to → option_and_then g later ≡ Some to
both None f g later to kept then is = cc
both (Some x) f g later to kept then is = rw (kept x refl) (then x is)

pub node_grows : (old new : Tree) → Grows old new → (from : ℕ) (pattern : NamedTerm) (to : ℕ)
    → node_after (steps_of old) (symbols_of old) from pattern ≡ Some to → node_after (steps_of new) (symbols_of new) from pattern ≡ Some to
node_grows old new grows from (variable name ty) to is = grows.steps from Variable to is
node_grows old new grows from (constant name ty) to is = step_grows old new grows from (symbols_of old name) (symbols_of new name) to (grows.symbols name) is
node_grows old new grows from (combination f x) to is =
    both (steps_of old from Combination)
    (λ middle. option_and_then (λ next. node_after (steps_of old) (symbols_of old) next x) (node_after (steps_of old) (symbols_of old) middle f))
    (λ middle. option_and_then (λ next. node_after (steps_of new) (symbols_of new) next x) (node_after (steps_of new) (symbols_of new) middle f))
    (steps_of new from Combination) to (grows.steps from Combination)
    (λ middle. both (node_after (steps_of old) (symbols_of old) middle f)
    (λ next. node_after (steps_of old) (symbols_of old) next x) (λ next. node_after (steps_of new) (symbols_of new) next x)
    (node_after (steps_of new) (symbols_of new) middle f) to (node_grows old new grows middle f) (λ next. node_grows old new grows next x to))
    is
node_grows old new grows from (abstraction name ty body) to is = grows.steps from Abstraction to is

-- a node to which a pattern leads is one of the tree's
through : {A : Type 0} {limit : ℕ} (first : Option A) (f : A → Option ℕ) (to : ℕ) → ((x : A) → f x ≡ Some to → to < limit) → option_and_then f first ≡ Some to → to < limit
through None f to within is = cc
through (Some x) f to within is = within x is

step_within : (tree : Tree) → IsTree tree → (from : ℕ) (symbol : Option Symbol) (to : ℕ) → step_by (steps_of tree) from symbol ≡ Some to → to < length tree.ends.items
step_within tree is_tree from None to is = cc
step_within tree is_tree from (Some symbol) to is = is_tree.leads from symbol to is

pub node_within : (tree : Tree) → IsTree tree → (from : ℕ) (pattern : NamedTerm) (to : ℕ)
    → node_after (steps_of tree) (symbols_of tree) from pattern ≡ Some to → to < length tree.ends.items
node_within tree is_tree from (variable name ty) to is = is_tree.leads from Variable to is
node_within tree is_tree from (constant name ty) to is = step_within tree is_tree from (symbols_of tree name) to is
node_within tree is_tree from (combination f x) to is =
    through (steps_of tree from Combination)
    (λ middle. option_and_then (λ next. node_after (steps_of tree) (symbols_of tree) next x) (node_after (steps_of tree) (symbols_of tree) middle f)) to
    (λ middle. through (node_after (steps_of tree) (symbols_of tree) middle f) (λ next. node_after (steps_of tree) (symbols_of tree) next x) to
    (λ next. node_within tree is_tree next x to))
    is
node_within tree is_tree from (abstraction name ty body) to is = is_tree.leads from Abstraction to is

-- what a pattern's parts lead to, one after the other
pub leads_through : (a b c : Tree) (from middle next to : ℕ) (f x : NamedTerm) → steps_of a from Combination ≡ Some middle → Grows a b
    → node_after (steps_of b) (symbols_of b) middle f ≡ Some next → Grows b c → node_after (steps_of c) (symbols_of c) next x ≡ Some to
    → node_after (steps_of c) (symbols_of c) from (combination f x) ≡ Some to
leads_through a b c from middle next to f x step first head second argument =
    let step_kept : steps_of c from Combination ≡ Some middle = second.steps from Combination middle (first.steps from Combination middle step) in
    rw step_kept (rw (node_grows b c second middle f next head) argument)

-- one more entry in a table that lacks its key
pub name_kept : (table later : List ℕ → Option ℕ) (name : List ℕ) (number : ℕ) → option_map Constant (table name) ≡ None
    → ((other : List ℕ) → later other ≡ update bytes_eq table name (Some number) other)
    → (other : List ℕ) (symbol : Symbol) → option_map Constant (table other) ≡ Some symbol → option_map Constant (later other) ≡ Some symbol
name_kept table later name number absent updated other symbol is = ap (option_map Constant) (updated other) ∙ go (bytes_eq name other) refl
  where
    go : (test : Bool) → bytes_eq name other ≡ test → option_map Constant (cond test (Some number) (table other)) ≡ Some symbol
    go true passed =
        let same : name ≡ other = (bytes_eq-Decides name other).0 passed in
        let none : option_map Constant (table other) ≡ None = ap (λ n. option_map Constant (table n)) (sym same) ∙ absent in
        cc
    go false failed = is

same_symbol : (a b : Symbol) → symbol_eq a b ≡ true → a ≡ b
same_symbol Variable Variable passed = refl
same_symbol (Constant a) (Constant b) passed = ap Constant (grind (arith, nat_tests))
same_symbol Combination Combination passed = refl
same_symbol Abstraction Abstraction passed = refl
same_symbol _ _ passed = cc

same_edge : (a b : Edge) → edge_eq a b ≡ true → a ≡ b
same_edge a b passed =
    let from : a.from ≡ b.from = grind (arith, nat_tests, first_of_both (nat_eq a.from b.from) (symbol_eq a.symbol b.symbol) passed) in
    let symbol : a.symbol ≡ b.symbol = same_symbol a.symbol b.symbol (second_of_both (nat_eq a.from b.from) (symbol_eq a.symbol b.symbol) passed) in
    λ i. record { from = from i; symbol = symbol i }

pub edge_kept : (table later : Edge → Option ℕ) (key : Edge) (to : ℕ) → table key ≡ None
    → ((other : Edge) → later other ≡ cond (edge_eq key other) (Some to) (table other))
    → (other : Edge) (node : ℕ) → table other ≡ Some node → later other ≡ Some node
edge_kept table later key to absent updated other node is = updated other ∙ go (edge_eq key other) refl
  where
    go : (test : Bool) → edge_eq key other ≡ test → cond test (Some to) (table other) ≡ Some node
    go true passed =
        let none : table other ≡ None = sym (ap table (same_edge key other passed)) ∙ absent in
        cc
    go false failed = is

pub edge_new : (table later : Edge → Option ℕ) (key : Edge) (to : ℕ) → ((other : Edge) → later other ≡ cond (edge_eq key other) (Some to) (table other))
    → (other : Edge) (node : ℕ) → later other ≡ Some node → (node ≡ to) ⊎ (table other ≡ Some node)
edge_new table later key to updated other node is = go (edge_eq key other) (sym (updated other) ∙ is)
  where
    go : (test : Bool) → cond test (Some to) (table other) ≡ Some node → (node ≡ to) ⊎ (table other ≡ Some node)
    go true same = inl cc
    go false known = inr known

-- the test for keys that the table makes
symbols_agree : (a b : Symbol) → symbol.ghosts.eq a b ≡ symbol_eq a b
symbols_agree Variable Variable = refl
symbols_agree (Constant a) (Constant b) = refl
symbols_agree Combination Combination = refl
symbols_agree Abstraction Abstraction = refl
symbols_agree _ _ = refl

edges_agree : edge.ghosts.eq ≡ edge_eq
edges_agree = λ i a b. nat_eq a.from b.from && symbols_agree a.symbol b.symbol i

pub edges_updated : {S : Type 0} (table later : HashMap Edge ℕ S) (key : Edge) (to : ℕ)
    → ((other : Edge) → get edge.ghosts.eq later other ≡ cond (edge.ghosts.eq key other) (Some to) (get edge.ghosts.eq table other))
    → (other : Edge) → get_by (edge_eq other) later ≡ cond (edge_eq key other) (Some to) (get_by (edge_eq other) table)
edges_updated table later key to updated =
    subst (λ (eq : Edge → Edge → Bool). (other : Edge) → get eq later other ≡ cond (eq key other) (Some to) (get eq table other)) edges_agree updated

-- one more node
pub places_kept : (ends more : List (Vec ℕ Global)) (node place : ℕ) → IsMember place (places_at ends node) → IsMember place (places_at (ends ++ more) node)
places_kept [] more node place member = absurd member
places_kept (places ∷ rest) more zero place member = member
places_kept (places ∷ rest) more (suc node) place member = places_kept rest more node place member

-- a node's places with one more
pub places_put : (ends : List (Vec ℕ Global)) (node : ℕ) (places : Vec ℕ Global) → node < length ends → places_at (slice_set ends node places) node ≡ places.items
places_put [] node places within = absurd (omega arith)
places_put (first ∷ rest) zero places within = refl
places_put (first ∷ rest) (suc node) places within = places_put rest node places (omega arith)

pub places_stay : (ends : List (Vec ℕ Global)) (node : ℕ) (places : Vec ℕ Global) (more : List ℕ) → places.items ≡ places_at ends node ++ more
    → (other place : ℕ) → IsMember place (places_at ends other) → IsMember place (places_at (slice_set ends node places) other)
places_stay [] node places more is other place member = member
places_stay (first ∷ rest) zero places more is zero place member = rw is (IsMember-append_left place first.items more member)
places_stay (first ∷ rest) zero places more is (suc other) place member = member
places_stay (first ∷ rest) (suc node) places more is zero place member = member
places_stay (first ∷ rest) (suc node) places more is (suc other) place member = places_stay rest node places more is other place member

pub places_read : (ends : List (Vec ℕ Global)) (node : ℕ) (places other : Vec ℕ Global) → node < length ends → places ≡ slice_index_or ends node other
    → places.items ≡ places_at ends node
places_read [] node places other within is = absurd (omega arith)
places_read (first ∷ rest) zero places other within is = ap (λ (v : Vec ℕ Global). v.items) is
places_read (first ∷ rest) (suc node) places other within is = places_read rest node places other (omega arith) is

pub ruleset growing = (grows_same, grows_then)

pub ruleset noting = (grows_same, grows_then)
