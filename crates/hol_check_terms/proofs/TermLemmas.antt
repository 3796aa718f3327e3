-- Terms with one number each.
use Rattle.std.proofs.Common.{◌≡◌, ℕ, ◌<◌, ◌≤◌, List, [], ◌∷◌, ◌++◌, length, get_or, true, refl, sym, ◌∙◌, ap, subst, inl, inr, Some, None, arith}
use Rattle.std.specs.Prelude.{slice_get, nat_eq}
use Rattle.std.proofs.lemmas.Bool.{eqb-true, eq-eqb}
use Rattle.std.proofs.lemmas.Option.{slice_get-get_or, get_or_from_slice_get}
use Rattle.hol_model.specs.Terms.HolType.{bool_type}
use Rattle.hol_model.specs.Terms.Nameless.{Nameless, bound, same_term}
use Rattle.hol_model.specs.Terms.Measures.{nameless_height, nameless_nodes}
use Rattle.hol_model.specs.Logic.Checks.{has_no_free}
use Rattle.hol_model.proofs.Tests.{same_answer, same_term-Decides}
use Rattle.hol_check_terms.specs.Growth.{IsLonger}
use Rattle.hol_check_terms.specs.Table.{HaveOneNumber, IsPut}
use Rattle.hol_check_terms.specs.Types.{TypeTable}
use Rattle.hol_check_terms.specs.Terms.{name_at, type_at, term_at, term_of_shape, term_of_node, TermPartsStandBefore, TermStandsAfterParts, IsGrown}
use Rattle.hol_check_terms.specs.Loose.{binders_needed}
use Rattle.hol_check_terms.specs.TermTable.{terms_of, Measures, AreTermNodes, AreTerms}
use Rattle.hol_check_terms.specs.declared.terms.TermShape.{TermShape}
use Rattle.hol_check_terms.specs.declared.terms.TermShape.TheVariants.{Free, Constant, Bound, Application, Abstraction}
use Rattle.hol_check_terms.specs.declared.terms.TermNode.{TermNode}
use Rattle.hol_check_terms.proofs.TableLemmas.{is_within, slice_get-end, slice_get_cases, get_or-longer, IsLonger-same, within-later, length-values_after, values_after-push, values_after-same}
use Rattle.hol_check_terms.proofs.TableLemmas.{value_at, distinct-push}
use Rattle.hol_check_terms.proofs.TypeLemmas.{same_number}
use Rattle.hol_check_terms.proofs.TypedLemmas.{AreTyped-later}

pub term-stable : (table : TypeTable) (terms more : List Nameless) (shape : TermShape) → TermPartsStandBefore table (length terms) shape →
    term_of_shape table (terms ++ more) shape ≡ term_of_shape table terms shape
term-stable table terms more (Free name ty) placed = refl
term-stable table terms more (Constant name ty) placed = refl
term-stable table terms more (Bound index) placed = refl
term-stable table terms more (Application f a) placed = cc (get_or-longer terms more f (bound 0) placed.0, get_or-longer terms more a (bound 0) placed.1)
term-stable table terms more (Abstraction ty body) placed = cc (get_or-longer terms more body (bound 0) placed.1)

term-raise : (table : TypeTable) (place other : ℕ) (shape : TermShape) → place ≤ other → TermPartsStandBefore table place shape → TermPartsStandBefore table other shape
term-raise table place other (Free name ty) above placed = placed
term-raise table place other (Constant name ty) above placed = placed
term-raise table place other (Bound index) above placed = tt
term-raise table place other (Application f a) above placed = let first = placed.0 in let second = placed.1 in (omega arith, omega arith)
term-raise table place other (Abstraction ty body) above placed = let second = placed.1 in (placed.0, omega arith)

-- no name and no type has two numbers
pub record HaveOneNumberEach (table : TypeTable) : Type 0 where
  pub names : HaveOneNumber table.names
  pub types : HaveOneNumber table.types

atoms-same : (table : TypeTable) (a b s t : ℕ) → HaveOneNumberEach table → (a < length table.names) × (s < length table.types) → (b < length table.names) × (t < length table.types)
    → name_at table.names a ≡ name_at table.names b → type_at table.types s ≡ type_at table.types t → (a ≡ b) × (s ≡ t)
atoms-same table a b s t one p q names types = (same_number table.names [] a b one.names p.0 q.0 names, same_number table.types bool_type s t one.types p.1 q.1 types)

term_shape-injective : (table : TypeTable) (terms : List Nameless) (first second : TermShape) → HaveOneNumberEach table → HaveOneNumber terms
    → TermPartsStandBefore table (length terms) first → TermPartsStandBefore table (length terms) second → term_of_shape table terms first ≡ term_of_shape table terms second → first ≡ second
term_shape-injective table terms (Free a s) (Free b t) each one p q same =
    let names : name_at table.names a ≡ name_at table.names b = cc in
    let types : type_at table.types s ≡ type_at table.types t = cc in
    let both = atoms-same table a b s t each p q names types in
    cc (both.0, both.1)
term_shape-injective table terms (Constant a s) (Constant b t) each one p q same =
    let names : name_at table.names a ≡ name_at table.names b = cc in
    let types : type_at table.types s ≡ type_at table.types t = cc in
    let both = atoms-same table a b s t each p q names types in
    cc (both.0, both.1)
term_shape-injective table terms (Bound i) (Bound j) each one p q same = cc
term_shape-injective table terms (Application f a) (Application g b) each one p q same =
    let functions : term_at terms f ≡ term_at terms g = cc in
    let arguments : term_at terms a ≡ term_at terms b = cc in
    let first : f ≡ g = same_number terms (bound 0) f g one p.0 q.0 functions in
    let second : a ≡ b = same_number terms (bound 0) a b one p.1 q.1 arguments in
    cc
term_shape-injective table terms (Abstraction s a) (Abstraction t b) each one p q same =
    let types : type_at table.types s ≡ type_at table.types t = cc in
    let bodies : term_at terms a ≡ term_at terms b = cc in
    let first : s ≡ t = same_number table.types bool_type s t each.types p.0 q.0 types in
    let second : a ≡ b = same_number terms (bound 0) a b one p.1 q.1 bodies in
    cc
term_shape-injective table terms _ _ each one p q same = cc

-- a node that is placed and measured right
pub record IsTermNode (table : TypeTable) (terms : List Nameless) (node : TermNode) : Type 0 where
  pub placed : TermStandsAfterParts table (length terms) node
  pub measured : Measures node (term_of_node table terms node)

pub terms_of-length : (table : TypeTable) (nodes : List TermNode) → length (terms_of table nodes) ≡ length nodes
terms_of-length table nodes = let is = length-values_after (term_of_node table) [] nodes in omega arith

pub terms_of-push : (table : TypeTable) (nodes : List TermNode) (node : TermNode) → terms_of table (nodes ++ node ∷ []) ≡ terms_of table nodes ++ term_of_node table (terms_of table nodes) node ∷ []
terms_of-push table nodes node = values_after-push (term_of_node table) [] nodes node

pub terms_of-at : (table : TypeTable) (nodes : List TermNode) → AreTermNodes table nodes → (place : ℕ) (node : TermNode) → slice_get nodes place ≡ Some node
    → slice_get (terms_of table nodes) place ≡ Some (term_of_node table (terms_of table nodes) node)
terms_of-at table nodes are place node there =
    value_at (term_of_node table) (TermStandsAfterParts table) (λ terms more other placed. term-stable table terms more other.shape placed) nodes are.placed place node there

pub term-at : (table : TypeTable) (nodes : List TermNode) → AreTermNodes table nodes → (number : ℕ) (node : TermNode) → slice_get nodes number ≡ Some node
    → term_at (terms_of table nodes) number ≡ term_of_node table (terms_of table nodes) node
term-at table nodes are number node there = get_or_from_slice_get (terms_of table nodes) number _ (bound 0) (terms_of-at table nodes are number node there)

new-term : (table : TypeTable) (nodes : List TermNode) → HaveOneNumberEach table → AreTermNodes table nodes → (node : TermNode) → IsTermNode table (terms_of table nodes) node
    → ((place : ℕ) → ¬ (slice_get nodes place ≡ Some node)) → (place : ℕ) → ¬ (slice_get (terms_of table nodes) place ≡ Some (term_of_node table (terms_of table nodes) node))
new-term table nodes each are node is absent place at =
    let terms = terms_of table nodes in
    let count = terms_of-length table nodes in
    let within : place < length nodes = let less = is_within terms place _ at in omega (arith, count) in
    let filler = get_or nodes place node in
    let there : slice_get nodes place ≡ Some filler = slice_get-get_or nodes place node within in
    let denoted = terms_of-at table nodes are place filler there in
    let same : term_of_node table terms filler ≡ term_of_node table terms node = cc in
    let before : TermPartsStandBefore table (length terms) filler.shape = term-raise table place (length terms) filler.shape (omega (arith, count)) (are.placed place filler there) in
    let shapes : filler.shape ≡ node.shape = term_shape-injective table terms filler.shape node.shape each are.distinct before is.placed same in
    let value : term_at terms place ≡ term_of_node table terms filler = term-at table nodes are place filler there in
    let measures = are.measured place filler there in
    let heights : filler.height ≡ node.height = measures.height ∙ (ap nameless_height (value ∙ same) ∙ sym is.measured.height) in
    let counts : filler.nodes ≡ node.nodes = measures.nodes ∙ (ap nameless_nodes (value ∙ same) ∙ sym is.measured.nodes) in
    let needed : filler.needed ≡ node.needed = measures.needed ∙ (ap binders_needed (value ∙ same) ∙ sym is.measured.needed) in
    let free : filler.no_free ≡ node.no_free = measures.no_free ∙ (ap has_no_free (value ∙ same) ∙ sym is.measured.no_free) in
    let one : filler ≡ node = (λ i. record { shape = shapes i; height = heights i; nodes = counts i; needed = needed i; no_free = free i }) in
    absent place (there ∙ ap Some one)

early_within : (table : TypeTable) (nodes : List TermNode) (place : ℕ) (other : TermNode) → slice_get nodes place ≡ Some other → place < length (terms_of table nodes)
early_within table nodes place other early = let less = is_within nodes place other early in let count = terms_of-length table nodes in omega arith

last_value : (table : TypeTable) (nodes : List TermNode) (node : TermNode) (place : ℕ) → place ≡ length nodes →
    term_at (terms_of table nodes ++ term_of_node table (terms_of table nodes) node ∷ []) place ≡ term_of_node table (terms_of table nodes) node
last_value table nodes node place last =
    let at_end : place ≡ length (terms_of table nodes) = last ∙ sym (terms_of-length table nodes) in
    get_or_from_slice_get _ place _ (bound 0) (rw at_end (slice_get-end (terms_of table nodes) [] (term_of_node table (terms_of table nodes) node)))

pushed : (table : TypeTable) (nodes : List TermNode) (node : TermNode) → HaveOneNumberEach table → AreTermNodes table nodes → IsTermNode table (terms_of table nodes) node
    → ((place : ℕ) → ¬ (slice_get nodes place ≡ Some node)) → AreTermNodes table (nodes ++ node ∷ [])
pushed table nodes node each are is absent = record {
  placed = λ place other there.
      elim (slice_get_cases nodes node place other there) [
        | inl early ↦ are.placed place other early
        | inr late ↦ subst (TermStandsAfterParts table place) (sym late.1) (subst (λ n. TermStandsAfterParts table n node) (terms_of-length table nodes ∙ sym late.0) is.placed)
      ];
  measured = λ place other there.
      rw (terms_of-push table nodes node)
      (elim (slice_get_cases nodes node place other there) [
        | inl early ↦ subst (Measures other) (sym (get_or-longer (terms_of table nodes) _ place (bound 0) (early_within table nodes place other early))) (are.measured place other early)
        | inr late ↦ subst (Measures other) (sym (last_value table nodes node place late.0))
            (subst (λ (n : TermNode). Measures n (term_of_node table (terms_of table nodes) node)) (sym late.1) is.measured)
      ]);
  distinct = rw (terms_of-push table nodes node) (distinct-push (terms_of table nodes) (term_of_node table (terms_of table nodes) node) are.distinct (new-term table nodes each are node is absent));
}

pub put-AreTermNodes : (table : TypeTable) (nodes now : List TermNode) (node : TermNode) → HaveOneNumberEach table → AreTermNodes table nodes → IsTermNode table (terms_of table nodes) node →
    IsPut node nodes now → AreTermNodes table now
put-AreTermNodes table nodes now node each are is put =
    elim put.put [ inl same ↦ subst (AreTermNodes table) (sym same) are | inr added ↦ subst (AreTermNodes table) (sym added.0) (pushed table nodes node each are is added.1) ]

pub put-longer : (table : TypeTable) (nodes now : List TermNode) (node : TermNode) → IsPut node nodes now → IsLonger (terms_of table nodes) (terms_of table now)
put-longer table nodes now node put =
    elim put.put [
      | inl same ↦ subst (λ l. IsLonger (terms_of table nodes) (terms_of table l)) (sym same) (IsLonger-same (terms_of table nodes))
      | inr added ↦ subst (λ l. IsLonger (terms_of table nodes) (terms_of table l)) (sym added.0)
          (record { added = term_of_node table (terms_of table nodes) node ∷ []; is_added = terms_of-push table nodes node })
    ]

pub put-number : (table : TypeTable) (nodes now : List TermNode) (node : TermNode) → AreTermNodes table now → TermStandsAfterParts table (length (terms_of table nodes)) node → IsPut node nodes now
    → (number : ℕ) → slice_get now number ≡ Some node → slice_get (terms_of table now) number ≡ Some (term_of_node table (terms_of table nodes) node)
put-number table nodes now node are placed put number there =
    let longer = put-longer table nodes now node put in
    terms_of-at table now are number node there ∙ ap Some (rw longer.is_added (term-stable table (terms_of table nodes) longer.added node.shape placed))

pub no_node : (table : TypeTable) (nodes : List TermNode) (number : ℕ) → number < length (terms_of table nodes) → slice_get nodes number ≡ None → ⊥
no_node table nodes number within none =
    let count = terms_of-length table nodes in
    let less : number < length nodes = omega (arith, count) in
    let some = slice_get-get_or nodes number (record { shape = Bound 0; height = 0; nodes = 0; needed = 0; no_free = true }) less in
    cc

pub same_term-same_number : (terms : List Nameless) (i j : ℕ) → HaveOneNumber terms → i < length terms → j < length terms → nat_eq i j ≡ same_term (term_at terms i) (term_at terms j)
same_term-same_number terms i j distinct first second =
    same_answer (nat_eq i j) (same_term (term_at terms i) (term_at terms j))
    (λ same. (same_term-Decides _ _).1 (ap (λ n. term_at terms n) (eqb-true i j same)))
    (λ same. eq-eqb i j (same_number terms (bound 0) i j distinct first second ((same_term-Decides _ _).0 same)))

-- more names and more types

at-later : {X : Type 0} (xs ys : List X) (d : X) (i : ℕ) → IsLonger xs ys → i < length xs → get_or xs i d ≡ get_or ys i d
at-later xs ys d i longer within = sym (ap (λ l. get_or l i d) longer.is_added ∙ get_or-longer xs longer.added i d within)

pub record AreLaterAtoms (table now : TypeTable) : Type 0 where
  pub names : IsLonger table.names now.names
  pub types : IsLonger table.types now.types

shape-later : (table now : TypeTable) → AreLaterAtoms table now → (terms : List Nameless) (place : ℕ) (shape : TermShape) → TermPartsStandBefore table place shape →
    term_of_shape table terms shape ≡ term_of_shape now terms shape
shape-later table now later terms place (Free name ty) placed = cc (at-later table.names now.names [] name later.names placed.0, at-later table.types now.types bool_type ty later.types placed.1)
shape-later table now later terms place (Constant name ty) placed = cc (at-later table.names now.names [] name later.names placed.0, at-later table.types now.types bool_type ty later.types placed.1)
shape-later table now later terms place (Bound index) placed = refl
shape-later table now later terms place (Application f a) placed = refl
shape-later table now later terms place (Abstraction ty body) placed = cc (at-later table.types now.types bool_type ty later.types placed.0)

placed-later : (table now : TypeTable) → AreLaterAtoms table now → (place : ℕ) (shape : TermShape) → TermPartsStandBefore table place shape → TermPartsStandBefore now place shape
placed-later table now later place (Free name ty) placed = (within-later table.names now.names name later.names placed.0, within-later table.types now.types ty later.types placed.1)
placed-later table now later place (Constant name ty) placed = (within-later table.names now.names name later.names placed.0, within-later table.types now.types ty later.types placed.1)
placed-later table now later place (Bound index) placed = tt
placed-later table now later place (Application f a) placed = placed
placed-later table now later place (Abstraction ty body) placed = (within-later table.types now.types ty later.types placed.0, placed.1)

pub terms_of-later : (table now : TypeTable) (nodes : List TermNode) → AreLaterAtoms table now → AreTermNodes table nodes → terms_of table nodes ≡ terms_of now nodes
terms_of-later table now nodes later are =
    values_after-same (term_of_node table) (term_of_node now) [] nodes
    (λ place node there terms. shape-later table now later terms place node.shape (are.placed place node there))

pub AreTermNodes-later : (table now : TypeTable) (nodes : List TermNode) → AreLaterAtoms table now → AreTermNodes table nodes → AreTermNodes now nodes
AreTermNodes-later table now nodes later are = record {
  placed = λ place node there. placed-later table now later place node.shape (are.placed place node there);
  measured = λ place node there. subst (λ l. Measures node (term_at l place)) (terms_of-later table now nodes later are) (are.measured place node there);
  distinct = subst HaveOneNumber (terms_of-later table now nodes later are) are.distinct;
}

-- a table over more names and types has grown
pub grown-later : (table now : TypeTable) (nodes : List TermNode) → AreLaterAtoms table now → AreTermNodes table nodes
    → IsGrown (record { names = table.names; types = table.types; terms = terms_of table nodes }) (record { names = now.names; types = now.types; terms = terms_of now nodes })
grown-later table now nodes later are = record {
  names = later.names;
  types = later.types;
  terms = subst (IsLonger (terms_of table nodes)) (terms_of-later table now nodes later are) (IsLonger-same (terms_of table nodes));
}

-- kept types

pub AreTerms-later : (table now : TypeTable) (nodes : List TermNode) (typed : List (ℕ × ℕ)) → AreLaterAtoms table now → AreTerms table nodes typed → AreTerms now nodes typed
AreTerms-later table now nodes typed later are = record {
  nodes_are = AreTermNodes-later table now nodes later are.nodes_are;
  typed_are = rw (← terms_of-later table now nodes later are.nodes_are) (AreTyped-later table.types now.types (terms_of table nodes) (terms_of table nodes) typed later.types
      (IsLonger-same (terms_of table nodes)) are.typed_are);
}

pub put-AreTerms : (table : TypeTable) (nodes now : List TermNode) (typed : List (ℕ × ℕ)) (node : TermNode) → HaveOneNumberEach table → AreTerms table nodes typed →
    IsTermNode table (terms_of table nodes) node → IsPut node nodes now → AreTerms table now typed
put-AreTerms table nodes now typed node each are is put = record {
  nodes_are = put-AreTermNodes table nodes now node each are.nodes_are is put;
  typed_are = AreTyped-later table.types table.types (terms_of table nodes) (terms_of table now) typed (IsLonger-same table.types) (put-longer table nodes now node put) are.typed_are;
}
