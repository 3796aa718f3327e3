-- Types with one number each.
use Rattle.std.proofs.Common.{◌≡◌, ℕ, ◌<◌, ◌≤◌, List, [], ◌∷◌, ◌++◌, length, get_or, refl, sym, ◌∙◌, ap, subst, inl, inr, Some, None, arith, length-append}
use Rattle.std.specs.Prelude.{slice_get}
use Rattle.std.proofs.lemmas.Option.{slice_get-get_or, get_or_from_slice_get}
use Rattle.hol_model.specs.Terms.HolType.{HolType, type_variable, bool_type, declared_type, type_nodes}
use Rattle.hol_model.specs.declared.limits.TheConstants.{TYPE_NODES_LIMIT}
use Rattle.hol_model.proofs.Terms.HolTypeEq.{type_eq-Decides}
use Rattle.hol_model.proofs.Tests.{same_answer}
use Rattle.hol_model.specs.Terms.HolType.{type_eq}
use Rattle.std.proofs.lemmas.Bool.{eqb-true, eq-eqb}
use Rattle.std.specs.Prelude.{nat_eq}
use Rattle.hol_check_terms.specs.Growth.{IsLonger}
use Rattle.hol_check_terms.specs.Table.{HaveOneNumber, IsPut}
use Rattle.hol_check_terms.specs.Types.{type_of_shape, type_of_node, PartsStandBefore, StandsAfterParts}
use Rattle.hol_check_terms.specs.TypeTable.{types_of, AreTypeNodes}
use Rattle.hol_check_terms.specs.declared.types.TypeShape.{TypeShape}
use Rattle.hol_check_terms.specs.declared.types.TypeShape.TheVariants.{Variable, Boolean, Function, Declared}
use Rattle.hol_check_terms.specs.declared.types.TypeNode.{TypeNode}
use Rattle.hol_check_terms.proofs.TableLemmas.{is_within, slice_get-end, slice_get_cases, get_or-longer, IsLonger-same, length-values_after, values_after-same, values_after-push, value_at}
use Rattle.hol_check_terms.proofs.TableLemmas.{distinct-push}

type-stable : (names : List (List ℕ)) (types more : List HolType) (shape : TypeShape) → PartsStandBefore names (length types) shape →
    type_of_shape names (types ++ more) shape ≡ type_of_shape names types shape
type-stable names types more (Variable name) placed = refl
type-stable names types more Boolean placed = refl
type-stable names types more (Function a b) placed = cc (get_or-longer types more a bool_type placed.0, get_or-longer types more b bool_type placed.1)
type-stable names types more (Declared name) placed = refl

type-raise : (names : List (List ℕ)) (place other : ℕ) (shape : TypeShape) → place ≤ other → PartsStandBefore names place shape → PartsStandBefore names other shape
type-raise names place other (Variable name) above placed = placed
type-raise names place other Boolean above placed = tt
type-raise names place other (Function a b) above placed = let first = placed.0 in let second = placed.1 in (omega arith, omega arith)
type-raise names place other (Declared name) above placed = placed

-- two numbers of one value
pub same_number : {X : Type 0} (xs : List X) (d : X) (i j : ℕ) → HaveOneNumber xs → i < length xs → j < length xs → get_or xs i d ≡ get_or xs j d → i ≡ j
same_number xs d i j distinct first second same = distinct i j (get_or xs j d) (slice_get-get_or xs i d first ∙ ap Some same) (slice_get-get_or xs j d second)

shape-injective : (names : List (List ℕ)) (types : List HolType) (first second : TypeShape) → HaveOneNumber names → HaveOneNumber types
    → PartsStandBefore names (length types) first → PartsStandBefore names (length types) second → type_of_shape names types first ≡ type_of_shape names types second → first ≡ second
shape-injective names types (Variable a) (Variable b) one_name one p q same = let names_same : get_or names a [] ≡ get_or names b [] = cc in
    ap Variable (same_number names [] a b one_name p q names_same)
shape-injective names types Boolean Boolean one_name one p q same = refl
shape-injective names types (Function a b) (Function c d) one_name one p q same =
    let domain : get_or types a bool_type ≡ get_or types c bool_type = cc in
    let codomain : get_or types b bool_type ≡ get_or types d bool_type = cc in
    let first : a ≡ c = same_number types bool_type a c one p.0 q.0 domain in
    let second : b ≡ d = same_number types bool_type b d one p.1 q.1 codomain in
    cc
shape-injective names types (Declared a) (Declared b) one_name one p q same = let names_same : get_or names a [] ≡ get_or names b [] = cc in
    ap Declared (same_number names [] a b one_name p q names_same)
shape-injective names types _ _ one_name one p q same = cc

-- types with one more node, whose parts are there and whose count is right

-- a node that is placed and counted right
abbrev pub IsTypeNode : List (List ℕ) → List HolType → TypeNode → Type 0
IsTypeNode names types node = StandsAfterParts names (length types) node × (node.count ≡ type_nodes (type_of_node names types node)) × (node.count ≤ TYPE_NODES_LIMIT)

pub types_of-length : (names : List (List ℕ)) (nodes : List TypeNode) → length (types_of names nodes) ≡ length nodes
types_of-length names nodes = let is = length-values_after (type_of_node names) [] nodes in omega arith

pub types_of-push : (names : List (List ℕ)) (nodes : List TypeNode) (node : TypeNode) →
    types_of names (nodes ++ node ∷ []) ≡ types_of names nodes ++ type_of_node names (types_of names nodes) node ∷ []
types_of-push names nodes node = values_after-push (type_of_node names) [] nodes node

pub types_of-at : (names : List (List ℕ)) (nodes : List TypeNode) → AreTypeNodes names nodes → (place : ℕ) (node : TypeNode) → slice_get nodes place ≡ Some node
    → slice_get (types_of names nodes) place ≡ Some (type_of_node names (types_of names nodes) node)
types_of-at names nodes are place node there =
    value_at (type_of_node names) (StandsAfterParts names) (λ types more other placed. type-stable names types more other.shape placed) nodes are.placed place node there

-- the counts of two nodes of one type are the same
node-injective : (names : List (List ℕ)) (nodes : List TypeNode) → HaveOneNumber names → AreTypeNodes names nodes → (node : TypeNode) → IsTypeNode names (types_of names nodes) node
    → ((place : ℕ) → ¬ (slice_get nodes place ≡ Some node)) → (place : ℕ) → ¬ (slice_get (types_of names nodes) place ≡ Some (type_of_node names (types_of names nodes) node))
node-injective names nodes one_name are node is absent place at =
    let types = types_of names nodes in
    let count = types_of-length names nodes in
    let within : place < length nodes = let less = is_within types place _ at in omega (arith, count) in
    let filler = get_or nodes place node in
    let there : slice_get nodes place ≡ Some filler = slice_get-get_or nodes place node within in
    let denoted = types_of-at names nodes are place filler there in
    let same : type_of_node names types filler ≡ type_of_node names types node = cc in
    let before : PartsStandBefore names (length types) filler.shape = type-raise names place (length types) filler.shape (omega (arith, count)) (are.placed place filler there) in
    let shapes : filler.shape ≡ node.shape = shape-injective names types filler.shape node.shape one_name are.distinct before is.0 same in
    let value : get_or types place bool_type ≡ type_of_node names types filler = get_or_from_slice_get types place _ bool_type denoted in
    let counts : filler.count ≡ node.count = are.counted place filler there ∙ (ap type_nodes (value ∙ same) ∙ sym is.1) in
    let one : filler ≡ node = (λ i. record { shape = shapes i; count = counts i }) in
    absent place (there ∙ ap Some one)

early_within : (names : List (List ℕ)) (nodes : List TypeNode) (place : ℕ) (other : TypeNode) → slice_get nodes place ≡ Some other → place < length (types_of names nodes)
early_within names nodes place other early = let less = is_within nodes place other early in let count = types_of-length names nodes in omega arith

last_value : (names : List (List ℕ)) (nodes : List TypeNode) (node : TypeNode) (place : ℕ) → place ≡ length nodes →
    get_or (types_of names nodes ++ type_of_node names (types_of names nodes) node ∷ []) place bool_type ≡ type_of_node names (types_of names nodes) node
last_value names nodes node place last =
    let at_end : place ≡ length (types_of names nodes) = last ∙ sym (types_of-length names nodes) in
    get_or_from_slice_get _ place _ bool_type (rw at_end (slice_get-end (types_of names nodes) [] (type_of_node names (types_of names nodes) node)))

pub put-AreTypeNodes : (names : List (List ℕ)) (nodes now : List TypeNode) (node : TypeNode) → HaveOneNumber names → AreTypeNodes names nodes → IsTypeNode names (types_of names nodes) node →
    IsPut node nodes now → AreTypeNodes names now
put-AreTypeNodes names nodes now node one_name are is put =
    elim put.put [ inl same ↦ subst (AreTypeNodes names) (sym same) are | inr added ↦ subst (AreTypeNodes names) (sym added.0) (pushed added.1) ]
  where
    types : List HolType
    types = types_of names nodes

    pushed : ((place : ℕ) → ¬ (slice_get nodes place ≡ Some node)) → AreTypeNodes names (nodes ++ node ∷ [])
    pushed absent = record {
      placed = λ place other there.
          elim (slice_get_cases nodes node place other there) [
            | inl early ↦ are.placed place other early
            | inr late ↦ subst (StandsAfterParts names place) (sym late.1) (subst (λ n. StandsAfterParts names n node) (types_of-length names nodes ∙ sym late.0) is.0)
          ];
      counted = λ place other there.
          rw (types_of-push names nodes node)
          (elim (slice_get_cases nodes node place other there) [
            | inl early ↦ are.counted place other early ∙ ap type_nodes (sym (get_or-longer (types_of names nodes) _ place bool_type (early_within names nodes place other early)))
            | inr late ↦ ap (λ (n : TypeNode). n.count) late.1 ∙ (is.1 ∙ ap type_nodes (sym (last_value names nodes node place late.0)))
          ]);
      within_limit = λ place other there.
          elim (slice_get_cases nodes node place other there) [
            | inl early ↦ are.within_limit place other early
            | inr late ↦ subst (λ (n : TypeNode). n.count ≤ TYPE_NODES_LIMIT) (sym late.1) is.2
          ];
      distinct = rw (types_of-push names nodes node) (distinct-push (types_of names nodes) (type_of_node names (types_of names nodes) node) are.distinct
          (node-injective names nodes one_name are node is absent));
    }

pub put-longer : (names : List (List ℕ)) (nodes now : List TypeNode) (node : TypeNode) → IsPut node nodes now → IsLonger (types_of names nodes) (types_of names now)
put-longer names nodes now node put =
    elim put.put [
      | inl same ↦ subst (λ l. IsLonger (types_of names nodes) (types_of names l)) (sym same) (IsLonger-same (types_of names nodes))
      | inr added ↦ subst (λ l. IsLonger (types_of names nodes) (types_of names l)) (sym added.0)
          (record { added = type_of_node names (types_of names nodes) node ∷ []; is_added = types_of-push names nodes node })
    ]

-- the place of the node's type
pub put-number : (names : List (List ℕ)) (nodes now : List TypeNode) (node : TypeNode) → AreTypeNodes names now → StandsAfterParts names (length (types_of names nodes)) node → IsPut node nodes now
    → (number : ℕ) → slice_get now number ≡ Some node → slice_get (types_of names now) number ≡ Some (type_of_node names (types_of names nodes) node)
put-number names nodes now node are placed put number there =
    let longer = put-longer names nodes now node put in
    types_of-at names now are number node there ∙ ap Some (rw longer.is_added (type-stable names (types_of names nodes) longer.added node.shape placed))

-- the node of a number

pub type-at : (names : List (List ℕ)) (nodes : List TypeNode) → AreTypeNodes names nodes → (number : ℕ) (node : TypeNode) → slice_get nodes number ≡ Some node
    → get_or (types_of names nodes) number bool_type ≡ type_of_node names (types_of names nodes) node
type-at names nodes are number node there = get_or_from_slice_get (types_of names nodes) number _ bool_type (types_of-at names nodes are number node there)

pub no_node : (names : List (List ℕ)) (nodes : List TypeNode) (number : ℕ) → number < length (types_of names nodes) → slice_get nodes number ≡ None → ⊥
no_node names nodes number within none =
    let count = types_of-length names nodes in
    let less : number < length nodes = omega (arith, count) in
    let some = slice_get-get_or nodes number (record { shape = Boolean; count = 0 }) less in
    cc

pub same_type-same_number : (types : List HolType) (i j : ℕ) → HaveOneNumber types → i < length types → j < length types → nat_eq i j ≡ type_eq (get_or types i bool_type) (get_or types j bool_type)
same_type-same_number types i j distinct first second =
    same_answer (nat_eq i j) (type_eq (get_or types i bool_type) (get_or types j bool_type))
    (λ same. (type_eq-Decides _ _).1 (ap (λ n. get_or types n bool_type) (eqb-true i j same)))
    (λ same. eq-eqb i j (same_number types bool_type i j distinct first second ((type_eq-Decides _ _).0 same)))

-- more names

name-later : (names more : List (List ℕ)) (types : List HolType) (place : ℕ) (shape : TypeShape) → PartsStandBefore names place shape →
    type_of_shape names types shape ≡ type_of_shape (names ++ more) types shape
name-later names more types place (Variable name) placed = ap type_variable (sym (get_or-longer names more name [] placed))
name-later names more types place Boolean placed = refl
name-later names more types place (Function a b) placed = refl
name-later names more types place (Declared name) placed = ap declared_type (sym (get_or-longer names more name [] placed))

placed-later : (names more : List (List ℕ)) (place : ℕ) (shape : TypeShape) → PartsStandBefore names place shape → PartsStandBefore (names ++ more) place shape
placed-later names more place (Variable name) placed = let longer = length-append names more in omega (arith, placed)
placed-later names more place Boolean placed = tt
placed-later names more place (Function a b) placed = placed
placed-later names more place (Declared name) placed = let longer = length-append names more in omega (arith, placed)

pub types_of-later : (names now : List (List ℕ)) (nodes : List TypeNode) → IsLonger names now → AreTypeNodes names nodes → types_of names nodes ≡ types_of now nodes
types_of-later names now nodes longer are =
    values_after-same (type_of_node names) (type_of_node now) [] nodes
    (λ place node there types. name-later names longer.added types place node.shape (are.placed place node there) ∙ ap (λ l. type_of_node l types node) (sym longer.is_added))

pub AreTypeNodes-later : (names now : List (List ℕ)) (nodes : List TypeNode) → IsLonger names now → AreTypeNodes names nodes → AreTypeNodes now nodes
AreTypeNodes-later names now nodes longer are = record {
  placed = λ place node there. subst (λ l. StandsAfterParts l place node) (sym longer.is_added) (placed-later names longer.added place node.shape (are.placed place node there));
  counted = λ place node there. are.counted place node there ∙ ap (λ l. type_nodes (get_or l place bool_type)) (types_of-later names now nodes longer are);
  within_limit = are.within_limit;
  distinct = subst HaveOneNumber (types_of-later names now nodes longer are) are.distinct;
}
