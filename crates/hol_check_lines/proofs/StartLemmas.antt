-- What is known before the first line.
use Rattle.std.proofs.Common.{◌≡◌, ℕ, zero, suc, List, [], ◌∷◌, Bool, true, false, refl, sym, ◌∙◌, ap, subst, Some, None, if◌then◌else◌}
use Rattle.std.specs.Prelude.{slice_get, nat_eq}
use Rattle.std.specs.Str.{bytes_eq}
use Rattle.std.proofs.lemmas.Bool.{eqb-true}
use Rattle.std.proofs.lemmas.Option.{get_or_from_slice_get}
use Rattle.std.proofs.lemmas.Slice.Eq.{bytes_eq-Decides}
use Rattle.indexmap.specs.IndexMap.{insert_entry}
use Rattle.hol_model.specs.Terms.HolType.{HolType, bool_type, function_type}
use Rattle.hol_model.specs.Logic.Theory.{generic_type, equality_name, choice_name, equality_type, choice_type, type_a}
use Rattle.hol_check_terms.specs.Growth.{IsLonger}
use Rattle.hol_check_terms.specs.Terms.{TermTable, name_at, type_at, IsGrown}
use Rattle.hol_check_terms.specs.Entries.{IsEntry}
use Rattle.hol_check_written.specs.Written.{AreWritten}
use Rattle.hol_check_written.specs.Making.{AreMade}
use Rattle.hol_check_written.specs.declared.written.Written.{Written}
use Rattle.hol_check_written.proofs.MakingLemmas.{none-numbered}
use Rattle.hol_check_rules.specs.Known.{IsGiven, IsListed, Knows}
use Rattle.hol_check_terms.proofs.TableLemmas.{is_within}
use Rattle.hol_check_rules.proofs.StateLemmas.{longer-place}
use Rattle.hol_check_terms.proofs.GrowthLemmas.{type-place, type-there}

-- the type variable `A`, and the type of predicates on it
pub record ArePredicates (types : List HolType) (a predicate : ℕ) : Type 0 where
  pub is_variable : slice_get types a ≡ Some type_a
  pub is_predicate : slice_get types predicate ≡ Some (function_type type_a bool_type)

pub predicates-made : (t1 t2 t3 : List HolType) (a formula predicate : ℕ) → slice_get t1 a ≡ Some type_a → IsLonger t1 t2 → slice_get t2 formula ≡ Some bool_type → IsLonger t2 t3
    → slice_get t3 predicate ≡ Some (function_type (type_at t2 a) (type_at t2 formula)) → ArePredicates t3 a predicate
predicates-made t1 t2 t3 a formula predicate is_a first is_formula second made =
    let a2 = type-place t1 t2 a type_a first is_a in
    let here = type-there t2 a type_a a2 in
    let formulas = type-there t2 formula bool_type is_formula in
    record { is_variable = type-place t2 t3 a type_a second a2; is_predicate = made ∙ (λ i. Some (function_type (here i) (formulas i))) }

pub predicates-kept : (earlier later : List HolType) (a predicate : ℕ) → IsLonger earlier later → ArePredicates earlier a predicate → ArePredicates later a predicate
predicates-kept earlier later a predicate longer are = record {
  is_variable = type-place earlier later a type_a longer are.is_variable;
  is_predicate = type-place earlier later predicate (function_type type_a bool_type) longer are.is_predicate;
}

pub equality-typed : (types : List HolType) (a predicate : ℕ) → ArePredicates types a predicate → function_type (type_at types a) (type_at types predicate) ≡ equality_type type_a
equality-typed types a predicate are =
    let variable = type-there types a type_a are.is_variable in
    let predicates = type-there types predicate (function_type type_a bool_type) are.is_predicate in
    λ i. function_type (variable i) (predicates i)

pub choice-typed : (types : List HolType) (a predicate : ℕ) → ArePredicates types a predicate → function_type (type_at types predicate) (type_at types a) ≡ choice_type type_a
choice-typed types a predicate are =
    let variable = type-there types a type_a are.is_variable in
    let predicates = type-there types predicate (function_type type_a bool_type) are.is_predicate in
    λ i. function_type (predicates i) (variable i)

-- the two constants in the table
module _ (table : TermTable) (equality equality_ty choice choice_ty : ℕ) (is_equality : slice_get table.names equality ≡ Some equality_name)
    (is_equality_ty : slice_get table.types equality_ty ≡ Some (equality_type type_a))
    (is_choice : slice_get table.names choice ≡ Some choice_name) (is_choice_ty : slice_get table.types choice_ty ≡ Some (choice_type type_a)) where
  abbrev pub entries : List (ℕ × ℕ)
  entries = (equality, equality_ty) ∷ (choice, choice_ty) ∷ []

  given : (name ty : ℕ) → IsEntry entries name ty → IsGiven table [] name ty
  given name ty (zero, there) =
      let pair : (equality, equality_ty) ≡ (name, ty) = cc in
      let names : equality ≡ name = ap (λ (p : ℕ × ℕ). p.0) pair in
      let types : equality_ty ≡ ty = ap (λ (p : ℕ × ℕ). p.1) pair in
      subst (λ n. IsGiven table [] n ty) names (subst (IsGiven table [] equality) types given_equality)
    where
      given_equality : IsGiven table [] equality equality_ty
      given_equality = record {
        name_within = is_within table.names equality equality_name is_equality;
        type_within = is_within table.types equality_ty (equality_type type_a) is_equality_ty;
        given = ap (generic_type []) (get_or_from_slice_get table.names equality equality_name [] is_equality) ∙ ap Some
            (sym (get_or_from_slice_get table.types equality_ty (equality_type type_a) bool_type is_equality_ty));
      }
  given name ty (suc zero, there) =
      let pair : (choice, choice_ty) ≡ (name, ty) = cc in
      let names : choice ≡ name = ap (λ (p : ℕ × ℕ). p.0) pair in
      let types : choice_ty ≡ ty = ap (λ (p : ℕ × ℕ). p.1) pair in
      subst (λ n. IsGiven table [] n ty) names (subst (IsGiven table [] choice) types given_choice)
    where
      given_choice : IsGiven table [] choice choice_ty
      given_choice = record {
        name_within = is_within table.names choice choice_name is_choice;
        type_within = is_within table.types choice_ty (choice_type type_a) is_choice_ty;
        given = ap (generic_type []) (get_or_from_slice_get table.names choice choice_name [] is_choice) ∙ ap Some
            (sym (get_or_from_slice_get table.types choice_ty (choice_type type_a) bool_type is_choice_ty));
      }
  given name ty (suc (suc i), there) = cc

  listed : (name : List ℕ) (ty : HolType) → generic_type [] name ≡ Some ty → IsListed table entries name ty
  listed name ty = go (bytes_eq equality_name name) refl (bytes_eq choice_name name) refl
    where
      go : (first : Bool) → bytes_eq equality_name name ≡ first → (second : Bool) → bytes_eq choice_name name ≡ second
          → (if first then Some (equality_type type_a) else (if second then Some (choice_type type_a) else None)) ≡ Some ty → IsListed table entries name ty
      go true is second other same = record {
        name_number = equality;
        type_number = equality_ty;
        listed = (0, refl);
        name_is = is_equality ∙ ap Some ((bytes_eq-Decides equality_name name).0 is);
        type_is = is_equality_ty ∙ same;
      }
      go false not true is same = record {
        name_number = choice;
        type_number = choice_ty;
        listed = (1, refl);
        name_is = is_choice ∙ ap Some ((bytes_eq-Decides choice_name name).0 is);
        type_is = is_choice_ty ∙ same;
      }
      go false not false other same = cc

  pub knows-constants : Knows table entries [] []
  knows-constants = record {
    constants_given = given;
    constants_listed = listed;
    types_declared = λ name noted. cc;
    types_listed = λ name is. cc;
  }

  differ : choice ≡ equality → ⊥
  differ same =
      let chosen : name_at table.names choice ≡ choice_name = get_or_from_slice_get table.names choice choice_name [] is_choice in
      let equal : name_at table.names equality ≡ equality_name = get_or_from_slice_get table.names equality equality_name [] is_equality in
      let names : choice_name ≡ equality_name = sym chosen ∙ (ap (name_at table.names) same ∙ equal) in
      let tested : false ≡ true = (bytes_eq-Decides choice_name equality_name).1 names in
      cc

  inserted : (test : Bool) → nat_eq choice equality ≡ test → (if test then (equality, choice_ty) ∷ [] else (equality, equality_ty) ∷ (choice, choice_ty) ∷ []) ≡ entries
  inserted true is = absurd (differ (eqb-true choice equality is))
  inserted false is = refl

  pub knows-inserted : (none first second : List (ℕ × ℕ)) (declared : List ℕ) → none ≡ [] → first ≡ insert_entry nat_eq none equality equality_ty →
      second ≡ insert_entry nat_eq first choice choice_ty → declared ≡ [] → Knows table second declared []
  knows-inserted none first second declared empty one two no_type =
      let firsts : first ≡ (equality, equality_ty) ∷ [] = one ∙ ap (λ l. insert_entry nat_eq l equality equality_ty) empty in
      let both : second ≡ entries = two ∙ (ap (λ l. insert_entry nat_eq l choice choice_ty) firsts ∙ inserted (nat_eq choice equality) refl) in
      subst (λ l. Knows table l declared []) (sym both) (subst (λ d. Knows table entries d []) (sym no_type) knows-constants)

-- the same, where the tables grow meanwhile
pub knows-first : (t1 t2 t3 : TermTable) (equality choice equality_ty choice_ty : ℕ) → slice_get t1.names equality ≡ Some equality_name → IsGrown t1 t2
    → slice_get t2.names choice ≡ Some choice_name → IsGrown t2 t3
    → slice_get t3.types equality_ty ≡ Some (equality_type type_a) → slice_get t3.types choice_ty ≡ Some (choice_type type_a)
    → (none first second : List (ℕ × ℕ)) (declared : List ℕ) → none ≡ [] → first ≡ insert_entry nat_eq none equality equality_ty → second ≡ insert_entry nat_eq first choice choice_ty →
    declared ≡ [] → Knows t3 second declared []
knows-first t1 t2 t3 equality choice equality_ty choice_ty is_equality one is_choice two is_equality_ty is_choice_ty =
    knows-inserted t3 equality equality_ty choice choice_ty
    (longer-place t2.names t3.names equality equality_name two.names (longer-place t1.names t2.names equality equality_name one.names is_equality))
    is_equality_ty
    (longer-place t2.names t3.names choice choice_name two.names is_choice)
    is_choice_ty

-- no lines of terms yet

pub none_written : (table : TermTable) (written : List Written) → written ≡ [] → AreWritten table written
none_written table written none = subst (AreWritten table) (sym none) (λ place one there. absurd (no-place place one there))
  where
    no-place : (place : ℕ) (one : Written) → slice_get {X = Written} [] place ≡ Some one → ⊥
    no-place place one there = cc

pub none_made : (table : TermTable) (written : List Written) (entries : List (ℕ × ℕ)) → entries ≡ [] → AreMade table written entries
none_made table written entries none = none-numbered table written [] entries none
