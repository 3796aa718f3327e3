-- What a recorder with the prelude has: its theorems, the types of the logical constants, and the parts of formulas.
use Rattle.std.proofs.Common.{◌≡◌, ℕ, List, [], ◌∷◌, ◌++◌, Bool, true, false, refl, sym, ◌∙◌, ap, subst, Option, Some, None, if◌then◌else◌}
use Rattle.std.specs.Prelude.{slice_get}
use Rattle.std.specs.Option.{option_map}
use Rattle.std.specs.Str.{bytes_eq}
use Rattle.std.proofs.lemmas.Option.{slice_get-map}
use Rattle.std.proofs.lemmas.Slice.Eq.{bytes_eq-Decides}
use Rattle.hol_model.specs.Terms.HolType.{HolType, bool_type, instantiate_type}
use Rattle.hol_model.specs.Terms.NamedTerm.{NamedTerm, variable, constant, combination, abstraction}
use Rattle.hol_model.specs.Terms.Nameless.{const, app, HasType, image}
use Rattle.hol_model.specs.Logic.Theory.{Theory, IsLegal, IsEarlier, IsKnown, IsKnownConstant, generic_type}
use Rattle.hol_model.specs.Kernel.Theorem.{Theorem}
use Rattle.hol_model.specs.Logic.Logic.{logical_definitions, not_name, unary, binary}
use Rattle.hol_model.specs.Logic.NamedLogic.{false_term, is_constant_named, dest_connected, dest_negation}
use Rattle.hol_model.proofs.Logic.Later.{head_is_new, rest_is_legal, generic_type-later}
use Rattle.hol_model.proofs.Terms.Images.{image-type}
use Rattle.hol_journal.specs.Journal.{Journal, Recorded}
use Rattle.hol_prelude.specs.declared.stored.Bool.{Bool as Stored}
use Rattle.hol_prelude_derivations.specs.Derivations.{theorems}
use Rattle.hol_prelude.specs.Prelude.{prelude_theorems, shown, p}
use Rattle.hol_prelude.specs.HasLogic.{HasLogic}
use Rattle.hol_equal.specs.Formulas.{IsFormula, AreSides, IsNegated}

-- the theory

generic_type-added : (added rest : Theory) → IsLegal (added ++ rest) → (name : List ℕ) (generic : HolType) → generic_type rest name ≡ Some generic → generic_type (added ++ rest) name ≡ Some generic
generic_type-added [] rest legal name generic is = is
generic_type-added (entry ∷ added) rest legal name generic is =
    generic_type-later entry (added ++ rest) (head_is_new entry (added ++ rest) legal) name generic (generic_type-added added rest (rest_is_legal entry (added ++ rest) legal) name generic is)

stored-stands : (all : List Recorded) (number : ℕ) (theorem : Theorem) → theorems all ≡ prelude_theorems → slice_get prelude_theorems number ≡ Some theorem
    → (made : Recorded) × (slice_get all number ≡ Some made) × (made.theorem ≡ theorem)
stored-stands all number theorem are there =
    go (slice_get all number) refl (sym (slice_get-map (λ (m : Recorded). m.theorem) all number) ∙ ap (λ (l : List Theorem). slice_get l number) are ∙ there)
  where
    go : (found : Option Recorded) → slice_get all number ≡ found → option_map (λ (m : Recorded). m.theorem) found ≡ Some theorem → (made : Recorded)
        × (slice_get all number ≡ Some made) × (made.theorem ≡ theorem)
    go None found is = cc
    go (Some made) found is = let same : made.theorem ≡ theorem = cc in (made, found, same)

-- the theory stands on the definitions of the logical constants
pub stands-on-logic : (journal : Journal) (logic : Stored) → HasLogic journal logic → IsEarlier logical_definitions journal.theory
stands-on-logic journal logic has =
    let at = stored-stands logic.theorems.items 24 (shown (false_term ∷ []) p) has.theorems_are refl in
    subst (λ (t : Theorem). IsEarlier t.theory journal.theory) at.2 (has.made.each 24 at.0 at.1).earlier

-- the generic type of a logical constant
pub logical-type : (journal : Journal) (logic : Stored) → HasLogic journal logic → IsLegal journal.theory → (name : List ℕ) (generic : HolType) → generic_type logical_definitions name ≡ Some generic
    → generic_type journal.theory name ≡ Some generic
logical-type journal logic has legal name generic is =
    let earlier = stands-on-logic journal logic has in
    subst (λ (t : Theory). generic_type t name ≡ Some generic) (sym earlier.is_added)
    (generic_type-added earlier.added logical_definitions (subst (λ (t : Theory). IsLegal t) earlier.is_added legal) name generic is)

-- formulas of the theory

-- a constant whose generic type has no type variables has that type
fixed-type : (theory : Theory) (name : List ℕ) (generic ty : HolType) → generic_type theory name ≡ Some generic → ((tau : List ℕ → HolType) → instantiate_type tau generic ≡ generic)
    → IsKnownConstant theory name ty → ty ≡ generic
fixed-type theory name generic ty is fixed known =
    let found = known.is_generic in
    let same : known.generic ≡ generic = cc in
    known.is_instance.is_instance ∙ ap (instantiate_type known.is_instance.instance) same ∙ fixed known.is_instance.instance

-- the sides of a formula of a binary connective
pub connected-parts : (theory : Theory) (name : List ℕ) → generic_type theory name ≡ Some binary → (term left right : NamedTerm) → dest_connected name term ≡ Some (left, right)
    → IsKnown theory (image term) bool_type → AreSides theory name term left right
connected-parts theory name generic (combination (combination (constant other ty) a) b) left right dest known = go (bytes_eq other name) refl dest
  where
    go : (test : Bool) → bytes_eq other name ≡ test → if◌then◌else◌ {A = Option (NamedTerm × NamedTerm)} test (Some (a, b)) None ≡ Some (left, right)
        → AreSides theory name (combination (combination (constant other ty) a) b) left right
    go false tested dest = cc
    go true tested dest =
        let named : other ≡ name = (bytes_eq-Decides other name).0 tested in
        let sides : NamedTerm × NamedTerm = (a, b) in
        let found : NamedTerm × NamedTerm = (left, right) in
        let same : sides ≡ found = cc in
        let a_is : a ≡ left = ap (λ (s : NamedTerm × NamedTerm). s.0) same in
        let b_is : b ≡ right = ap (λ (s : NamedTerm × NamedTerm). s.1) same in
        let generic_here : generic_type theory other ≡ Some binary = ap (generic_type theory) named ∙ generic in
        let ty_is : ty ≡ binary = fixed-type theory other binary ty generic_here (λ tau. refl) known.parts.0.0.1 in
        let typed : HasType [] (app (app (const other binary) (image a)) (image b)) bool_type =
        subst (λ (t : HolType). HasType [] (app (app (const other t) (image a)) (image b)) bool_type) ty_is known.typed in
        let first : typed.1.0 ≡ bool_type = cc in
        let second : typed.0 ≡ bool_type = cc in
        let left_known : IsKnown theory (image a) bool_type = record { typed = subst (λ (t : HolType). HasType [] (image a) t) first typed.1.2; parts = known.parts.0.1 } in
        let right_known : IsKnown theory (image b) bool_type = record { typed = subst (λ (t : HolType). HasType [] (image b) t) second typed.2; parts = known.parts.1 } in
        record {
          is = λ i. combination (combination (constant (named i) (ty_is i)) (a_is i)) (b_is i);
          left_formula = subst (λ (t : NamedTerm). IsFormula theory t) a_is (record { typed = image-type a bool_type left_known.typed; known = left_known });
          right_formula = subst (λ (t : NamedTerm). IsFormula theory t) b_is (record { typed = image-type b bool_type right_known.typed; known = right_known });
        }
connected-parts theory name generic (combination (combination (variable other ty) a) b) left right dest known = cc
connected-parts theory name generic (combination (combination (combination f x) a) b) left right dest known = cc
connected-parts theory name generic (combination (combination (abstraction other ty x) a) b) left right dest known = cc
connected-parts theory name generic (combination (variable other ty) b) left right dest known = cc
connected-parts theory name generic (combination (constant other ty) b) left right dest known = cc
connected-parts theory name generic (combination (abstraction other ty x) b) left right dest known = cc
connected-parts theory name generic (variable other ty) left right dest known = cc
connected-parts theory name generic (constant other ty) left right dest known = cc
connected-parts theory name generic (abstraction other ty x) left right dest known = cc

-- the formula under a negation
pub negated-part : (theory : Theory) → generic_type theory not_name ≡ Some unary → (term part : NamedTerm) → dest_negation term ≡ Some part → IsKnown theory (image term) bool_type
    → IsNegated theory term part
negated-part theory generic (combination (constant other ty) a) part dest known = go (bytes_eq other not_name) refl dest
  where
    go : (test : Bool) → bytes_eq other not_name ≡ test → (if test then Some a else None) ≡ Some part → IsNegated theory (combination (constant other ty) a) part
    go false tested dest = cc
    go true tested dest =
        let named : other ≡ not_name = (bytes_eq-Decides other not_name).0 tested in
        let a_is : a ≡ part = cc in
        let generic_here : generic_type theory other ≡ Some unary = ap (generic_type theory) named ∙ generic in
        let ty_is : ty ≡ unary = fixed-type theory other unary ty generic_here (λ tau. refl) known.parts.0.1 in
        let typed : HasType [] (app (const other unary) (image a)) bool_type = subst (λ (t : HolType). HasType [] (app (const other t) (image a)) bool_type) ty_is known.typed in
        let domain : typed.0 ≡ bool_type = cc in
        let part_known : IsKnown theory (image a) bool_type = record { typed = subst (λ (t : HolType). HasType [] (image a) t) domain typed.2; parts = known.parts.1 } in
        record {
          is = λ i. combination (constant (named i) (ty_is i)) (a_is i);
          formula = subst (λ (t : NamedTerm). IsFormula theory t) a_is (record { typed = image-type a bool_type part_known.typed; known = part_known });
        }
negated-part theory generic (combination (variable other ty) a) part dest known = cc
negated-part theory generic (combination (combination f x) a) part dest known = cc
negated-part theory generic (combination (abstraction other ty x) a) part dest known = cc
negated-part theory generic (variable other ty) part dest known = cc
negated-part theory generic (constant other ty) part dest known = cc
negated-part theory generic (abstraction other ty x) part dest known = cc

-- T and F, where the theory knows them
pub constant-is : (theory : Theory) (name : List ℕ) (term : NamedTerm) (found : HolType) → generic_type theory name ≡ Some bool_type
    → is_constant_named name term ≡ true → IsKnown theory (image term) found
    → term ≡ constant name bool_type
constant-is theory name (constant other ty) found generic named known =
    let name_is : other ≡ name = (bytes_eq-Decides other name).0 named in
    let ty_is : ty ≡ bool_type = fixed-type theory other bool_type ty (ap (generic_type theory) name_is ∙ generic) (λ tau. refl) known.parts.1 in
    λ i. constant (name_is i) (ty_is i)
constant-is theory name (variable other ty) found generic named known = cc
constant-is theory name (combination f x) found generic named known = cc
constant-is theory name (abstraction other ty x) found generic named known = cc
