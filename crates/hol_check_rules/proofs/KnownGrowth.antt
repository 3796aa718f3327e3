-- What tables of constants and of declared types say after one more entry.
use Rattle.std.proofs.Common.{◌≡◌, ◌⊎◌, ℕ, zero, suc, ◌<◌, List, [], ◌∷◌, length, Bool, true, false, ◌||◌, refl, sym, ◌∙◌, ap, subst, inl, inr, Some, None, if◌then◌else◌}
use Rattle.std.specs.Prelude.{slice_get, nat_eq}
use Rattle.std.specs.Str.{bytes_eq}
use Rattle.std.proofs.lemmas.Bool.{eqb-true}
use Rattle.std.proofs.lemmas.Option.{slice_get-get_or, get_or_from_slice_get}
use Rattle.std.proofs.lemmas.Slice.Eq.{bytes_eq-Decides}
use Rattle.indexmap.specs.IndexMap.{insert_entry}
use Rattle.hol_model.specs.Terms.HolType.{HolType, bool_type}
use Rattle.hol_model.specs.Logic.Theory.{Theory, Entry, declaration_of_type, generic_type}
use Rattle.hol_model.specs.Logic.KnownTerm.{is_declared}
use Rattle.hol_check_terms.specs.Table.{IsPut}
use Rattle.hol_check_terms.specs.Terms.{TermTable, name_at, type_at}
use Rattle.hol_check_terms.specs.Entries.{IsEntry}
use Rattle.hol_check_terms.specs.Numbers.{IsNoted}
use Rattle.hol_check_rules.specs.Known.{IsGiven, IsListed, IsListedType, IsDeclaredNumber, Knows, GivesConstant}
use Rattle.hol_check_terms.proofs.TableLemmas.{slice_get_cases, slice_get-longer}
use Rattle.hol_check_terms.proofs.MemoLemmas.{insert-added}

insert-there : (entries : List (ℕ × ℕ)) (key value : ℕ) → IsEntry (insert_entry nat_eq entries key value) key value
insert-there [] key value = (0, refl)
insert-there (first ∷ rest) key value = go (nat_eq key first.0) refl (insert-there rest key value)
  where
    go : (test : Bool) → nat_eq key first.0 ≡ test → IsEntry (insert_entry nat_eq rest key value) key value →
        IsEntry (if test then (first.0, value) ∷ rest else first ∷ insert_entry nat_eq rest key value) key value
    go true is deeper = (0, λ i. Some (sym (eqb-true key first.0 is) i, value))
    go false is deeper = (suc deeper.0, deeper.1)

insert-keeps : (entries : List (ℕ × ℕ)) (key value other one : ℕ) → ¬ (other ≡ key) → IsEntry entries other one → IsEntry (insert_entry nat_eq entries key value) other one
insert-keeps [] key value other one differ (i, there) = cc
insert-keeps (first ∷ rest) key value other one differ (i, there) = go (nat_eq key first.0) refl i there (insert-keeps rest key value other one differ)
  where
    go : (test : Bool) → nat_eq key first.0 ≡ test → (i : ℕ) → slice_get (first ∷ rest) i ≡ Some (other, one) → (IsEntry rest other one → IsEntry (insert_entry nat_eq rest key value) other one)
        → IsEntry (if test then (first.0, value) ∷ rest else first ∷ insert_entry nat_eq rest key value) other one
    go true is zero there deeper =
        let pair : first ≡ (other, one) = cc in
        absurd (differ (sym (eqb-true key first.0 is ∙ ap (λ (p : ℕ × ℕ). p.0) pair)))
    go true is (suc i) there deeper = (suc i, there)
    go false is zero there deeper = (0, there)
    go false is (suc i) there deeper = let later = deeper (i, there) in (suc later.0, later.1)

pub knows-constant : (table : TermTable) (entries : List (ℕ × ℕ)) (declared : List ℕ) (theory : Theory) (entry : Entry) (name ty : ℕ) → GivesConstant table entry theory name ty →
    Knows table entries declared theory
    → Knows table (insert_entry nat_eq entries name ty) declared (entry ∷ theory)
knows-constant table entries declared theory entry name ty gives knows = record {
  constants_given = λ n m there.
      elim (insert-added nat_eq eqb-true entries name ty n m there) [
        | inl early ↦ given_before n m (knows.constants_given n m early)
        | inr last ↦ subst (λ k. IsGiven table (entry ∷ theory) k m) (sym last.0) (subst (IsGiven table (entry ∷ theory) name) (sym last.1) given_now)
      ];
  constants_listed = λ other s is. listed other s (bytes_eq (name_at table.names name) other) refl (sym (gives.gives other) ∙ is);
  types_declared = λ n there. let number = knows.types_declared n there in record { within = number.within; declares = gives.keeps (name_at table.names n) ∙ number.declares };
  types_listed = λ other is. knows.types_listed other (sym (gives.keeps other) ∙ is);
}
  where
    new : List ℕ
    new = name_at table.names name

    given_now : IsGiven table (entry ∷ theory) name ty
    given_now = record {
      name_within = gives.name_within;
      type_within = gives.type_within;
      given = gives.gives new ∙ ap (λ test. if test then Some (type_at table.types ty) else generic_type theory new) ((bytes_eq-Decides new new).1 refl);
    }

    other_name : (n m : ℕ) → generic_type theory (name_at table.names n) ≡ Some (type_at table.types m) → (test : Bool) → bytes_eq new (name_at table.names n) ≡ test → test ≡ false
    other_name n m given false is = refl
    other_name n m given true is =
        let same : new ≡ name_at table.names n = (bytes_eq-Decides new (name_at table.names n)).0 is in
        let none : generic_type theory (name_at table.names n) ≡ None = ap (generic_type theory) (sym same) ∙ gives.is_new in
        cc

    given_before : (n m : ℕ) → IsGiven table theory n m → IsGiven table (entry ∷ theory) n m
    given_before n m before = record {
      name_within = before.name_within;
      type_within = before.type_within;
      given = gives.gives (name_at table.names n)
          ∙ (ap (λ test. if test then Some (type_at table.types ty) else generic_type theory (name_at table.names n))
          (other_name n m before.given (bytes_eq new (name_at table.names n)) refl) ∙ before.given);
    }

    listed : (other : List ℕ) (s : HolType) (test : Bool) → bytes_eq new other ≡ test → (if test then Some (type_at table.types ty) else generic_type theory other) ≡ Some s →
        IsListed table (insert_entry nat_eq entries name ty) other s
    listed other s true same is = record {
      name_number = name;
      type_number = ty;
      listed = insert-there entries name ty;
      name_is = slice_get-get_or table.names name [] gives.name_within ∙ ap Some ((bytes_eq-Decides new other).0 same);
      type_is = slice_get-get_or table.types ty bool_type gives.type_within ∙ is;
    }
    listed other s false differ is =
        let before = knows.constants_listed other s is in
        record {
          name_number = before.name_number;
          type_number = before.type_number;
          listed = insert-keeps entries name ty before.name_number before.type_number
              (λ same. apart (sym (get_or_from_slice_get table.names before.name_number other [] before.name_is) ∙ ap (name_at table.names) same)) before.listed;
          name_is = before.name_is;
          type_is = before.type_is;
        }
      where
        apart : other ≡ new → ⊥
        apart same = let passed : bytes_eq new other ≡ true = (bytes_eq-Decides new other).1 (sym same) in cc

earlier-noted : (declared now : List ℕ) (name other : ℕ) → IsPut name declared now → IsNoted declared other → IsNoted now other
earlier-noted declared now name other put noted =
    elim put.put [
      | inl unchanged ↦ (noted.0, subst (λ l. slice_get l noted.0 ≡ Some other) (sym unchanged) noted.1)
      | inr added ↦ (noted.0, subst (λ l. slice_get l noted.0 ≡ Some other) (sym added.0) (slice_get-longer declared (name ∷ []) noted.0 other noted.1))
    ]

noted-cases : (declared now : List ℕ) (name other : ℕ) → IsPut name declared now → IsNoted now other → IsNoted declared other ⊎ (other ≡ name)
noted-cases declared now name other put noted =
    elim put.put [
      | inl unchanged ↦ inl (noted.0, subst (λ l. slice_get l noted.0 ≡ Some other) unchanged noted.1)
      | inr added ↦ (
          elim (slice_get_cases declared name noted.0 other (subst (λ l. slice_get l noted.0 ≡ Some other) added.0 noted.1)) [
            | inl early ↦ inl (noted.0, early)
            | inr last ↦ inr last.1
          ])
    ]

pub knows-type : (table : TermTable) (entries : List (ℕ × ℕ)) (declared now : List ℕ) (theory : Theory) (name : ℕ) → name < length table.names → IsPut name declared now → IsNoted now name →
    Knows table entries declared theory
    → Knows table entries now (declaration_of_type (name_at table.names name) ∷ theory)
knows-type table entries declared now theory name within put there knows = record {
  constants_given = λ n m at. let before = knows.constants_given n m at in record { name_within = before.name_within; type_within = before.type_within; given = before.given };
  constants_listed = λ other s is. knows.constants_listed other s is;
  types_declared = λ n noted.
      elim (noted-cases declared now name n put noted) [
        | inl early ↦ still n (knows.types_declared n early)
        | inr last ↦ subst (IsDeclaredNumber table (declaration_of_type new ∷ theory)) (sym last)
            (record { within = within; declares = ap (λ test. test || is_declared theory new) ((bytes_eq-Decides new new).1 refl) })
      ];
  types_listed = λ other is. listed other (bytes_eq new other) refl is;
}
  where
    new : List ℕ
    new = name_at table.names name

    either : (test : Bool) → (test || true) ≡ true
    either true = refl
    either false = refl

    still : (n : ℕ) → IsDeclaredNumber table theory n → IsDeclaredNumber table (declaration_of_type new ∷ theory) n
    still n before = record { within = before.within; declares = ap (λ test. bytes_eq new (name_at table.names n) || test) before.declares ∙ either (bytes_eq new (name_at table.names n)) }

    listed : (other : List ℕ) (test : Bool) → bytes_eq new other ≡ test → (test || is_declared theory other) ≡ true → IsListedType table now other
    listed other true same is = record { number = name; listed = there; name_is = slice_get-get_or table.names name [] within ∙ ap Some ((bytes_eq-Decides new other).0 same) }
    listed other false differ is =
        let before = knows.types_listed other is in
        record { number = before.number; listed = earlier-noted declared now name before.number put before.listed; name_is = before.name_is }
