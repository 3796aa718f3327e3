-- What a replacement cannot touch stays as it is.
use Rattle.std.proofs.Common.{◌≡◌, ℕ, List, [], ◌∷◌, Bool, true, false, ◌&&◌, ◌||◌, not, Some, None, refl, sym, ◌∙◌, ap}
use Rattle.std.specs.Prelude.{Option, if◌then◌else◌, fold, bit_and, bit_or}
use Rattle.std.specs.List.{list_any}
use Rattle.std.specs.Option.{option_map, option_map_or}
use Rattle.std.proofs.lemmas.Nat.{and_comm}
use Rattle.hol_model.specs.Terms.HolType.{HolType, function_type, type_put}
use Rattle.hol_model.specs.Terms.NamedTerm.{NamedTerm, variable, constant, combination, abstraction, Binder, same_variable, is_free, type_of}
use Rattle.hol_model.specs.Terms.Nameless.{Nameless, free, const, bound, app, lam, image, image_under, binder_index}
use Rattle.hol_model.proofs.Tests.{same_name, same_variable-type, first_of_neither, second_of_neither}
use Rattle.hol_model.proofs.Terms.Images.{application-typed}
use Rattle.hol_types.specs.Variables as types_spec
use Rattle.hol_types.proofs.Closed.{unchanged}
use Rattle.hol_terms.specs.Classes.{class_of_name, have_common_class, classes_of_names}
use Rattle.hol_terms.specs.TypeVariables.{has_type_variables}
use Rattle.hol_terms.proofs.FreeNames.{nothing_common, apart_from_first, apart_from_second, other_names, apart_not_free}
use Rattle.hol_subst.specs.Entries.{Entry, entries, looked_up, instance_of, mapped, replaced, KeepsTypes}
use Rattle.hol_subst.specs.Touched.{Covers, IsAbsent, ReplacesAlike, changes_type, changes_types, stays}
use Rattle.hol_subst.proofs.Putting.{type_put-none}
use Rattle.hol_subst.proofs.KeptTypes.{unchanged_type, KeepsTypes-keeping}

-- the parts of a union have nothing in common with what the union has nothing in common with
pub first_apart : (a b m : ℕ) → bit_and (bit_or a b) m ≡ 0 → bit_and a m ≡ 0
first_apart a b m apart = and_comm a m ∙ apart_from_first m a b (and_comm m (bit_or a b) ∙ apart)

pub second_apart : (a b m : ℕ) → bit_and (bit_or a b) m ≡ 0 → bit_and b m ≡ 0
second_apart a b m apart = and_comm b m ∙ apart_from_second m a b (and_comm m (bit_or a b) ∙ apart)

not_free_in : (term : NamedTerm) (name : List ℕ) (ty : HolType) → bit_and (classes_of_names term) (class_of_name name) ≡ 0 → is_free name ty term ≡ false
not_free_in term name ty apart = apart_not_free term name ty (and_comm (class_of_name name) (classes_of_names term) ∙ apart)

-- a variable that is free in no new term, and one more that is kept
pub IsAbsent-keeping : (env : List Entry) (name : List ℕ) (ty : HolType) (kept : List ℕ) (kept_type : HolType)
    → IsAbsent env name ty → IsAbsent (((kept, kept_type), None) ∷ env) name ty
IsAbsent-keeping env name ty kept kept_type is =
    record { absent = λ other s term looked. go (same_variable kept kept_type other s) other s term looked }
  where
    go : (test : Bool) (other : List ℕ) (s : HolType) (term : NamedTerm) → (if test then None else looked_up env other s) ≡ Some term → is_free name ty term ≡ false
    go true other s term looked = cc
    go false other s term looked = is.absent other s term looked

-- one more that is replaced
pub IsAbsent-putting : (env : List Entry) (name : List ℕ) (ty : HolType) (put : List ℕ) (put_type : HolType) (new : NamedTerm)
    → is_free name ty new ≡ false → IsAbsent env name ty → IsAbsent (((put, put_type), Some new) ∷ env) name ty
IsAbsent-putting env name ty put put_type new absent is =
    record { absent = λ other s term looked. go (same_variable put put_type other s) other s term looked }
  where
    go : (test : Bool) (other : List ℕ) (s : HolType) (term : NamedTerm) → (if test then Some new else looked_up env other s) ≡ Some term → is_free name ty term ≡ false
    go true other s term looked = let same : new ≡ term = cc in ap (is_free name ty) (sym same) ∙ absent
    go false other s term looked = is.absent other s term looked

-- the same, of a list of pairs
pub IsAbsent-pairs : (theta : List (NamedTerm × NamedTerm)) (name : List ℕ) (ty : HolType)
    → list_any (λ (pair : NamedTerm × NamedTerm). is_free name ty pair.0) theta ≡ false → IsAbsent (entries theta) name ty
IsAbsent-pairs [] name ty none = record { absent = λ other s term looked. cc }
IsAbsent-pairs ((new, variable third t) ∷ rest) name ty none =
    IsAbsent-putting (entries rest) name ty third t new
    (first_of_neither (is_free name ty new) (list_any (λ (pair : NamedTerm × NamedTerm). is_free name ty pair.0) rest) none)
    (IsAbsent-pairs rest name ty (second_of_neither (is_free name ty new) (list_any (λ (pair : NamedTerm × NamedTerm). is_free name ty pair.0) rest) none))
IsAbsent-pairs ((new, constant third t) ∷ rest) name ty none =
    IsAbsent-pairs rest name ty (second_of_neither (is_free name ty new) (list_any (λ (pair : NamedTerm × NamedTerm). is_free name ty pair.0) rest) none)
IsAbsent-pairs ((new, combination f x) ∷ rest) name ty none =
    IsAbsent-pairs rest name ty (second_of_neither (is_free name ty new) (list_any (λ (pair : NamedTerm × NamedTerm). is_free name ty pair.0) rest) none)
IsAbsent-pairs ((new, abstraction third t body) ∷ rest) name ty none =
    IsAbsent-pairs rest name ty (second_of_neither (is_free name ty new) (list_any (λ (pair : NamedTerm × NamedTerm). is_free name ty pair.0) rest) none)

-- one more variable that is kept
Covers-keeping : (old new : ℕ) (env : List Entry) (name : List ℕ) (ty : HolType) → Covers old new env → Covers old new (((name, ty), None) ∷ env)
Covers-keeping old new env name ty covers = record {
  kept = λ other s apart. here (same_variable name ty other s) (covers.kept other s apart);
  absent = λ other s apart. IsAbsent-keeping env other s name ty (covers.absent other s apart);
}
  where
    here : (test : Bool) {found : Option NamedTerm} → found ≡ None → (if test then None else found) ≡ None
    here true is = refl
    here false is = is

-- entries that replace alike give the same
pub replaced-alike : {env other : List Entry} (types : List (HolType × HolType)) → ReplacesAlike env other → (term : Nameless) → replaced env types term ≡ replaced other types term
replaced-alike types same (free name ty) = ap (λ found. option_map_or image found (free name (type_put types ty))) (same.alike name ty)
replaced-alike types same (const name ty) = refl
replaced-alike types same (bound index) = refl
replaced-alike types same (app f x) = λ i. app (replaced-alike types same f i) (replaced-alike types same x i)
replaced-alike types same (lam ty body) = λ i. lam (type_put types ty) (replaced-alike types same body i)

pub Covers-alike : (old new : ℕ) (env inner : List Entry) (name : List ℕ) (ty : HolType) → ReplacesAlike inner (((name, ty), None) ∷ env) → Covers old new env → Covers old new inner
Covers-alike old new env inner name ty same covers = record {
  kept = λ other s apart. same.alike other s ∙ (Covers-keeping old new env name ty covers).kept other s apart;
  absent = λ other s apart. record {
    absent = λ third t term looked. ((Covers-keeping old new env name ty covers).absent other s apart).absent third t term (sym (same.alike third t) ∙ looked);
  };
}

pub KeepsTypes-alike : (env inner : List Entry) (types : List (HolType × HolType)) (name : List ℕ) (ty : HolType) → ReplacesAlike inner (((name, ty), None) ∷ env)
    → KeepsTypes env types → KeepsTypes inner types
KeepsTypes-alike env inner types name ty same kept other s new looked =
    KeepsTypes-keeping env types name ty kept other s new (sym (same.alike other s) ∙ looked)

-- a variable that no entry replaces may be kept
pub alike-itself : (env : List Entry) → ReplacesAlike env env
alike-itself env = record { alike = λ name ty. refl }

pub alike-kept : (env : List Entry) (old new class : ℕ) (name : List ℕ) (ty : HolType) → Covers old new env → class ≡ class_of_name name
    → have_common_class old class ≡ false → ReplacesAlike env (((name, ty), None) ∷ env)
alike-kept env old new class name ty covers is apart =
    record { alike = λ other s. go (same_variable name ty other s) other s refl }
  where
    go : (test : Bool) (other : List ℕ) (s : HolType) → same_variable name ty other s ≡ test → looked_up env other s ≡ (if test then None else looked_up env other s)
    go true other s same =
        rw (← same_name name other ty s same, ← same_variable-type name other ty s same)
        (covers.kept name ty (ap (bit_and old) (sym is) ∙ nothing_common old class apart))
    go false other s same = refl

-- one more variable that is replaced
Covers-putting : (old new : ℕ) (env : List Entry) (name : List ℕ) (ty : HolType) (put : NamedTerm) → Covers old new env
    → Covers (bit_or old (class_of_name name)) (bit_or new (classes_of_names put)) (((name, ty), Some put) ∷ env)
Covers-putting old new env name ty put covers = record {
  kept = λ other s apart.
      rw (other_names name other ty s (second_apart old (class_of_name name) (class_of_name other) apart))
      (covers.kept other s (first_apart old (class_of_name name) (class_of_name other) apart));
  absent = λ other s apart.
      IsAbsent-putting env other s name ty put (not_free_in put other s (second_apart new (classes_of_names put) (class_of_name other) apart))
      (covers.absent other s (first_apart new (classes_of_names put) (class_of_name other) apart));
}

-- the same, from what calls answer
pub Covers-and_putting : (old new more_old more_new class classes : ℕ) (name : List ℕ) (put : NamedTerm) → class ≡ class_of_name name → classes ≡ classes_of_names put
    → more_old ≡ bit_or old class → more_new ≡ bit_or new classes
    → (env : List Entry) (ty : HolType) → Covers old new env → Covers more_old more_new (((name, ty), Some put) ∷ env)
Covers-and_putting old new more_old more_new class classes name put is_class is_classes is_old is_new env ty covers =
    rw (is_old, is_new, is_class, is_classes) (Covers-putting old new env name ty put covers)

-- the classes of a list of pairs, one after another
abbrev old_classes : ℕ → List (NamedTerm × NamedTerm) → ℕ
old_classes start theta = fold (λ bits (pair : NamedTerm × NamedTerm). bit_or bits (classes_of_names pair.1)) start theta

abbrev new_classes : ℕ → List (NamedTerm × NamedTerm) → ℕ
new_classes start theta = fold (λ bits (pair : NamedTerm × NamedTerm). bit_or bits (classes_of_names pair.0)) start theta

old_start : (theta : List (NamedTerm × NamedTerm)) (start m : ℕ) → bit_and (old_classes start theta) m ≡ 0 → bit_and start m ≡ 0
old_start [] start m apart = apart
old_start (pair ∷ rest) start m apart =
    first_apart start (classes_of_names pair.1) m (old_start rest (bit_or start (classes_of_names pair.1)) m apart)

new_start : (theta : List (NamedTerm × NamedTerm)) (start m : ℕ) → bit_and (new_classes start theta) m ≡ 0 → bit_and start m ≡ 0
new_start [] start m apart = apart
new_start (pair ∷ rest) start m apart =
    first_apart start (classes_of_names pair.0) m (new_start rest (bit_or start (classes_of_names pair.0)) m apart)

kept_by : (theta : List (NamedTerm × NamedTerm)) (start : ℕ) (name : List ℕ) (ty : HolType) → bit_and (old_classes start theta) (class_of_name name) ≡ 0
    → looked_up (entries theta) name ty ≡ None
kept_by [] start name ty apart = refl
kept_by ((new, variable other s) ∷ rest) start name ty apart =
    let both : bit_and (bit_or start (class_of_name other)) (class_of_name name) ≡ 0 =
    old_start rest (bit_or start (class_of_name other)) (class_of_name name) apart in
    rw (other_names other name s ty (second_apart start (class_of_name other) (class_of_name name) both))
    (kept_by rest (bit_or start (class_of_name other)) name ty apart)
kept_by ((new, constant other s) ∷ rest) start name ty apart = kept_by rest (bit_or start 0) name ty apart
kept_by ((new, combination f x) ∷ rest) start name ty apart = kept_by rest (bit_or start (classes_of_names (combination f x))) name ty apart
kept_by ((new, abstraction other s body) ∷ rest) start name ty apart = kept_by rest (bit_or start (classes_of_names body)) name ty apart

absent_by : (theta : List (NamedTerm × NamedTerm)) (start : ℕ) (name : List ℕ) (ty : HolType)
    → bit_and (new_classes start theta) (class_of_name name) ≡ 0 → list_any (λ (pair : NamedTerm × NamedTerm). is_free name ty pair.0) theta ≡ false
absent_by [] start name ty apart = refl
absent_by (pair ∷ rest) start name ty apart =
    neither_test (is_free name ty pair.0) (list_any (λ (p : NamedTerm × NamedTerm). is_free name ty p.0) rest)
    (not_free_in pair.0 name ty
    (second_apart start (classes_of_names pair.0) (class_of_name name) (new_start rest (bit_or start (classes_of_names pair.0)) (class_of_name name) apart)))
    (absent_by rest (bit_or start (classes_of_names pair.0)) name ty apart)
  where
    neither_test : (p q : Bool) → p ≡ false → q ≡ false → (p || q) ≡ false
    neither_test p q first second = cc

-- the classes of a list of pairs cover its entries
pub Covers-pairs : (theta : List (NamedTerm × NamedTerm)) (old new : ℕ) → old ≡ old_classes 0 theta → new ≡ new_classes 0 theta → Covers old new (entries theta)
Covers-pairs theta old new is_old is_new = record {
  kept = λ name ty apart. kept_by theta 0 name ty (ap (λ n. bit_and n (class_of_name name)) (sym is_old) ∙ apart);
  absent = λ name ty apart. IsAbsent-pairs theta name ty (absent_by theta 0 name ty (ap (λ n. bit_and n (class_of_name name)) (sym is_new) ∙ apart));
}

-- a type that the pairs cannot change
pub type_stays : (types : List (HolType × HolType)) (ty : HolType) → changes_type types ty ≡ false → type_put types ty ≡ ty
type_stays [] ty none = type_put-none ty
type_stays (pair ∷ rest) ty none = unchanged (pair ∷ rest) ty none

-- the parts of a term that the pairs cannot change
pub function_stays : (types : List (HolType × HolType)) (f x : NamedTerm) → changes_types types (combination f x) ≡ false → changes_types types f ≡ false
function_stays [] f x none = refl
function_stays (pair ∷ rest) f x none = first_of_neither (has_type_variables f) (has_type_variables x) none

pub argument_stays : (types : List (HolType × HolType)) (f x : NamedTerm) → changes_types types (combination f x) ≡ false → changes_types types x ≡ false
argument_stays [] f x none = refl
argument_stays (pair ∷ rest) f x none = second_of_neither (has_type_variables f) (has_type_variables x) none

binder_stays : (types : List (HolType × HolType)) (name : List ℕ) (ty : HolType) (body : NamedTerm) → changes_types types (abstraction name ty body) ≡ false → changes_type types ty ≡ false
binder_stays [] name ty body none = refl
binder_stays (pair ∷ rest) name ty body none = first_of_neither (types_spec.has_type_variables ty) (has_type_variables body) none

pub body_stays : (types : List (HolType × HolType)) (name : List ℕ) (ty : HolType) (body : NamedTerm) → changes_types types (abstraction name ty body) ≡ false → changes_types types body ≡ false
body_stays [] name ty body none = refl
body_stays (pair ∷ rest) name ty body none = second_of_neither (types_spec.has_type_variables ty) (has_type_variables body) none

pub leaf_stays : (types : List (HolType × HolType)) (name : List ℕ) (ty : HolType) → changes_types types (variable name ty) ≡ false → changes_type types ty ≡ false
leaf_stays [] name ty none = refl
leaf_stays (pair ∷ rest) name ty none = none

constant_stays : (types : List (HolType × HolType)) (name : List ℕ) (ty : HolType) → changes_types types (constant name ty) ≡ false → changes_type types ty ≡ false
constant_stays [] name ty none = refl
constant_stays (pair ∷ rest) name ty none = none

module _ (env : List Entry) (types : List (HolType × HolType)) (old new : ℕ) (covers : Covers old new env) where
  -- a term in which nothing that is replaced stands is the same after the replacement
  replaced-apart : (term : NamedTerm) (binders : List Binder) → bit_and old (classes_of_names term) ≡ 0 → changes_types types term ≡ false
      → replaced env types (image_under binders term) ≡ image_under binders term
  replaced-apart (variable name ty) binders apart none = go (binder_index binders name ty)
    where
      kept : instance_of env types name ty ≡ free name ty
      kept = rw (covers.kept name ty apart) (ap (free name) (type_stays types ty (leaf_stays types name ty none)))

      go : (index : Option ℕ) → mapped (instance_of env types) (type_put types) (option_map_or bound index (free name ty)) ≡ option_map_or bound index (free name ty)
      go None = kept
      go (Some index) = refl
  replaced-apart (constant name ty) binders apart none = ap (const name) (type_stays types ty (constant_stays types name ty none))
  replaced-apart (combination f x) binders apart none =
      λ i. app (replaced-apart f binders (apart_from_first old (classes_of_names f) (classes_of_names x) apart) (function_stays types f x none) i)
      (replaced-apart x binders (apart_from_second old (classes_of_names f) (classes_of_names x) apart) (argument_stays types f x none) i)
  replaced-apart (abstraction name ty body) binders apart none =
      λ i. lam (type_stays types ty (binder_stays types name ty body none) i)
      (replaced-apart body ((name, ty) ∷ binders) apart (body_stays types name ty body none) i)

-- a type of a term without type variables has none
type_has_none : (term : NamedTerm) (ty : HolType) → type_of term ≡ Some ty → has_type_variables term ≡ false → types_spec.has_type_variables ty ≡ false
type_has_none (variable name s) ty typed none = let same : s ≡ ty = cc in ap types_spec.has_type_variables (sym same) ∙ none
type_has_none (constant name s) ty typed none = let same : s ≡ ty = cc in ap types_spec.has_type_variables (sym same) ∙ none
type_has_none (combination f x) ty typed none =
    let parts = application-typed (type_of f) (type_of x) ty typed in
    second_of_neither (types_spec.has_type_variables parts.0) (types_spec.has_type_variables ty)
    (type_has_none f (function_type parts.0 ty) parts.1 (first_of_neither (has_type_variables f) (has_type_variables x) none))
type_has_none (abstraction name s body) ty typed none =
    go (type_of body) refl typed (λ c is. type_has_none body c is (second_of_neither (types_spec.has_type_variables s) (has_type_variables body) none))
  where
    go : (found : Option HolType) → type_of body ≡ found → option_map (function_type s) found ≡ Some ty
        → ((c : HolType) → type_of body ≡ Some c → types_spec.has_type_variables c ≡ false) → types_spec.has_type_variables ty ≡ false
    go None e h deeper = cc
    go (Some c) e h deeper =
        let same : function_type s c ≡ ty = cc in
        ap types_spec.has_type_variables (sym same)
        ∙ neither_type (types_spec.has_type_variables s) (types_spec.has_type_variables c)
        (first_of_neither (types_spec.has_type_variables s) (has_type_variables body) none) (deeper c e)
      where
        neither_type : (p q : Bool) → p ≡ false → q ≡ false → (p || q) ≡ false
        neither_type p q first second = cc

-- both halves of a conjunction of failed tests
failed_first : (p q : Bool) → (not p && not q) ≡ true → p ≡ false
failed_first true q both = cc
failed_first false q both = refl

failed_second : (p q : Bool) → (not p && not q) ≡ true → q ≡ false
failed_second true q both = cc
failed_second false true both = cc
failed_second false false both = refl

-- the same, from what the tests answer
pub stays-image : (env : List Entry) (types : List (HolType × HolType)) (old new : ℕ) (term : NamedTerm) → Covers old new env → stays old types term ≡ true
    → image term ≡ replaced env types (image term)
stays-image env types old new term covers passed =
    let common = have_common_class old (classes_of_names term) in
    sym (replaced-apart env types old new covers term []
    (nothing_common old (classes_of_names term) (failed_first common (changes_types types term) passed))
    (failed_second common (changes_types types term) passed))

pub stays-typed : (types : List (HolType × HolType)) (old : ℕ) (term : NamedTerm) (ty : HolType) → type_of term ≡ Some ty → stays old types term ≡ true
    → type_of term ≡ option_map (type_put types) (type_of term)
stays-typed types old term ty typed passed = go types (failed_second (have_common_class old (classes_of_names term)) (changes_types types term) passed)
  where
    go : (types : List (HolType × HolType)) → changes_types types term ≡ false → type_of term ≡ option_map (type_put types) (type_of term)
    go [] none = sym (unchanged_type (type_of term))
    go (pair ∷ rest) none =
        let same : type_put (pair ∷ rest) ty ≡ ty = unchanged (pair ∷ rest) ty (type_has_none term ty typed none) in
        typed ∙ sym (ap Some same) ∙ sym (ap (option_map (type_put (pair ∷ rest))) typed)

-- what a test says of a variable of another class
pub kept-from_test : (env : List Entry) (old new class : ℕ) (name : List ℕ) (ty : HolType) → Covers old new env → class ≡ class_of_name name
    → have_common_class old class ≡ false → None ≡ looked_up env name ty
kept-from_test env old new class name ty covers is apart =
    sym (covers.kept name ty (ap (bit_and old) (sym is) ∙ nothing_common old class apart))

pub ruleset keeping_apart = (kept-from_test)

pub ruleset covering = (Covers-alike, KeepsTypes-alike, Covers-and_putting, Covers-pairs)

pub ruleset keeping_variable = (alike-itself, alike-kept)

pub ruleset handing_on = (stays-image, stays-typed)
