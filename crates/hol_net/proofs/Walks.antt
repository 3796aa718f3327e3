-- What the walks over a tree's nodes collect.
use Rattle.std.proofs.Common.{◌≡◌, inl, inr, ℕ, zero, suc, ◌+◌, ◌≤◌, List, [], ◌∷◌, ◌++◌, true, refl, sym, ◌∙◌, ap, subst}
use Rattle.std.proofs.Common.{Option, Some, None, arith, length, append_assoc}
use Rattle.std.proofs.lemmas.List.{append-nil}
use Rattle.std.specs.List.{flat_map}
use Rattle.std.specs.Option.{option_and_then, option_map_or}
use Rattle.std.proofs.lemmas.Slice.Eq.{bytes_eq-Decides}
use Rattle.std.specs.declared.alloc.Global.{Global}
use Rattle.std.specs.declared.vec.Vec.{Vec}
use Rattle.hol_model.specs.Logic.Derivable.{IsMember}
use Rattle.hol_model.specs.Terms.NamedTerm.{NamedTerm, variable, constant, combination, abstraction}
use Rattle.hol_model.proofs.Logic.Conditions.{first_of_both, second_of_both}
use Rattle.hol_model.proofs.Terms.Membership.{IsMember-append_left, IsMember-append_right}
use Rattle.hol_model.specs.Rewrites.Matching.{fits}
use Rattle.hol_net.specs.declared.tree.Symbol.TheVariants.{Variable, Combination, Abstraction}
use Rattle.hol_net.specs.Tree.{Steps, Symbols, step_by, child, nodes_after, node_after, places_at, all_places}

-- the nodes behind an edge that both parts of a combination lead to
abbrev after_both : Steps → Symbols → Option ℕ → NamedTerm → NamedTerm → List ℕ
after_both steps symbols edge f x = option_map_or (λ head. flat_map (λ next. nodes_after steps symbols next x) (nodes_after steps symbols head f)) edge []

-- each node to which a fitting pattern leads is found

is_child : (to : ℕ) (found : Option ℕ) → found ≡ Some to → IsMember to (child found)
is_child to None is = cc
is_child to (Some node) is = inl cc

first_found : (steps : Steps) (symbols : Symbols) (from to : ℕ) (term : NamedTerm) → steps from Variable ≡ Some to → IsMember to (nodes_after steps symbols from term)
first_found steps symbols from to (variable name ty) is = is_child to (steps from Variable) is
first_found steps symbols from to (constant name ty) is =
    IsMember-append_left to (child (steps from Variable)) (child (step_by steps from (symbols name))) (is_child to (steps from Variable) is)
first_found steps symbols from to (combination f x) is =
    IsMember-append_left to (child (steps from Variable)) (after_both steps symbols (steps from Combination) f x) (is_child to (steps from Variable) is)
first_found steps symbols from to (abstraction name ty body) is =
    IsMember-append_left to (child (steps from Variable)) (child (steps from Abstraction)) (is_child to (steps from Variable) is)

each_found : (after : ℕ → List ℕ) (nodes : List ℕ) (node to : ℕ) → IsMember node nodes → IsMember to (after node) → IsMember to (flat_map after nodes)
each_found after [] node to member is = absurd member
each_found after (first ∷ rest) node to (inl same) is =
    IsMember-append_left to (after first) (flat_map after rest) (subst (λ (n : ℕ). IsMember to (after n)) same is)
each_found after (first ∷ rest) node to (inr member) is =
    IsMember-append_right to (after first) (flat_map after rest) (each_found after rest node to member is)

-- a way in two parts
pub parts_of : {A B : Type 0} (first : Option A) (f : A → Option B) (to : B) → option_and_then f first ≡ Some to → (x : A) × (first ≡ Some x) × (f x ≡ Some to)
parts_of None f to is = cc
parts_of (Some x) f to is = (x, refl, is)

pub node_found : (steps : Steps) (symbols : Symbols) (pattern term : NamedTerm) (from to : ℕ) → fits pattern term ≡ true
    → node_after steps symbols from pattern ≡ Some to → IsMember to (nodes_after steps symbols from term)
node_found steps symbols (variable name ty) term from to fit is = first_found steps symbols from to term is
node_found steps symbols (constant name ty) (constant other s) from to fit is =
    let same : name ≡ other = (bytes_eq-Decides name other).0 fit in
    IsMember-append_right to (child (steps from Variable)) (child (step_by steps from (symbols other)))
    (is_child to (step_by steps from (symbols other)) (ap (λ n. step_by steps from (symbols n)) (sym same) ∙ is))
node_found steps symbols (combination f x) (combination g y) from to fit is =
    let first = parts_of (steps from Combination) (λ middle. option_and_then (λ next. node_after steps symbols next x) (node_after steps symbols middle f)) to is in
    let second = parts_of (node_after steps symbols first.0 f) (λ next. node_after steps symbols next x) to first.2 in
    IsMember-append_right to (child (steps from Variable)) (after_both steps symbols (steps from Combination) g y)
    (rw first.1
    (each_found (λ next. nodes_after steps symbols next y) (nodes_after steps symbols first.0 g) second.0 to
    (node_found steps symbols f g first.0 second.0 (first_of_both (fits f g) (fits x y) fit) second.1)
    (node_found steps symbols x y second.0 to (second_of_both (fits f g) (fits x y) fit) second.2)))
node_found steps symbols (abstraction name ty body) (abstraction other s part) from to fit is =
    IsMember-append_right to (child (steps from Variable)) (child (steps from Abstraction)) (is_child to (steps from Abstraction) is)
node_found steps symbols (constant name ty) (variable other s) from to fit is = cc
node_found steps symbols (constant name ty) (combination g y) from to fit is = cc
node_found steps symbols (constant name ty) (abstraction other s part) from to fit is = cc
node_found steps symbols (combination f x) (variable other s) from to fit is = cc
node_found steps symbols (combination f x) (constant other s) from to fit is = cc
node_found steps symbols (combination f x) (abstraction other s part) from to fit is = cc
node_found steps symbols (abstraction name ty body) (variable other s) from to fit is = cc
node_found steps symbols (abstraction name ty body) (constant other s) from to fit is = cc
node_found steps symbols (abstraction name ty body) (combination g y) from to fit is = cc

-- and each place of a node
pub place_found : (ends : List (Vec ℕ Global)) (nodes : List ℕ) (node place : ℕ) → IsMember node nodes → IsMember place (places_at ends node) → IsMember place (all_places ends nodes)
place_found ends [] node place member is = absurd member
place_found ends (first ∷ rest) node place (inl same) is =
    IsMember-append_left place (places_at ends first) (all_places ends rest) (subst (λ (n : ℕ). IsMember place (places_at ends n)) same is)
place_found ends (first ∷ rest) node place (inr member) is =
    IsMember-append_right place (places_at ends first) (all_places ends rest) (place_found ends rest node place member is)

-- past the nodes there are no places
pub places_nowhere : (ends : List (Vec ℕ Global)) (node : ℕ) → length ends ≤ node → [] ≡ places_at ends node
places_nowhere [] node past = refl
places_nowhere (first ∷ rest) zero past = absurd (omega arith)
places_nowhere (first ∷ rest) (suc node) past = places_nowhere rest node (omega arith)

-- the walk through a combination, from one node in its middle after the other
pub after_combination : (steps : Steps) (symbols : Symbols) (from head : ℕ) (f x term : NamedTerm) (old first middle new : List ℕ) → combination f x ≡ term
    → Some head ≡ steps from Combination → first ≡ old ++ child (steps from Variable) → middle ≡ nodes_after steps symbols head f
    → new ≡ first ++ flat_map (λ next. nodes_after steps symbols next x) middle → new ≡ old ++ nodes_after steps symbols from term
after_combination steps symbols from head f x term old first middle new whole edge begun halfway is =
    is ∙ (rw (← whole, ← edge, begun, halfway) (append_assoc old (child (steps from Variable)) (flat_map (λ next. nodes_after steps symbols next x) (nodes_after steps symbols head f))))

pub ruleset walking = (append_assoc, append-nil)

pub ruleset going = (walking, after_combination)
