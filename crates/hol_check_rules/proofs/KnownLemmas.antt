-- What tables of constants and of declared types answer.
use Rattle.std.proofs.Common.{◌≡◌, ℕ, zero, suc, ◌<◌, List, [], ◌∷◌, length, Bool, true, false, ◌||◌, refl, sym, ap, subst, Option, Some, None, if◌then◌else◌}
use Rattle.std.specs.Prelude.{slice_get, nat_eq}
use Rattle.std.specs.List.{list_any}
use Rattle.std.specs.Map.{lookup}
use Rattle.std.proofs.lemmas.Bool.{eqb-true, eq-eqb}
use Rattle.std.proofs.lemmas.Option.{slice_get-get_or}
use Rattle.hol_model.specs.Terms.HolType.{HolType}
use Rattle.hol_model.specs.Logic.Theory.{Theory, generic_type}
use Rattle.hol_model.specs.Logic.KnownTerm.{is_declared}
use Rattle.hol_model.proofs.Tests.{first_of_neither, second_of_neither}
use Rattle.hol_check_terms.specs.Table.{HaveOneNumber}
use Rattle.hol_check_terms.specs.Terms.{TermTable, name_at}
use Rattle.hol_check_terms.specs.Entries.{IsEntry}
use Rattle.hol_check_terms.specs.Numbers.{IsNoted}
use Rattle.hol_check_rules.specs.Known.{IsGiven, Knows}

pub lookup-entry : (key value : ℕ) (entries : List (ℕ × ℕ)) → Some value ≡ lookup (nat_eq key) entries → IsEntry entries key value
lookup-entry key value [] found = cc
lookup-entry key value (first ∷ rest) found = go (nat_eq key first.0) refl found (lookup-entry key value rest)
  where
    go : (test : Bool) → nat_eq key first.0 ≡ test → Some value ≡ (if test then Some first.1 else lookup (nat_eq key) rest) →
        (Some value ≡ lookup (nat_eq key) rest → IsEntry rest key value) → IsEntry (first ∷ rest) key value
    go true is found deeper =
        let keys : key ≡ first.0 = eqb-true key first.0 is in
        let values : value ≡ first.1 = cc in
        (0, λ i. Some (sym keys i, sym values i))
    go false is found deeper = let later = deeper found in (suc later.0, later.1)

pub lookup-none : (key value : ℕ) (entries : List (ℕ × ℕ)) → None ≡ lookup (nat_eq key) entries → IsEntry entries key value → ⊥
lookup-none key value [] found (i, there) = cc
lookup-none key value (first ∷ rest) found (i, there) = go (nat_eq key first.0) refl found i there (λ none later. lookup-none key value rest none later)
  where
    go : (test : Bool) → nat_eq key first.0 ≡ test → None ≡ (if test then Some first.1 else lookup (nat_eq key) rest) → (i : ℕ) → slice_get (first ∷ rest) i ≡ Some (key, value) →
        (None ≡ lookup (nat_eq key) rest → IsEntry rest key value → ⊥) → ⊥
    go true is found i there deeper = cc
    go false is found zero there deeper =
        let keys : key ≡ first.0 = cc in
        let same : nat_eq key first.0 ≡ true = eq-eqb key first.0 keys in
        cc
    go false is found (suc i) there deeper = deeper found (i, there)

any-noted : (key : ℕ) (keys : List ℕ) → list_any (nat_eq key) keys ≡ true → IsNoted keys key
any-noted key [] found = cc
any-noted key (first ∷ rest) found = go (nat_eq key first) refl found (any-noted key rest)
  where
    go : (test : Bool) → nat_eq key first ≡ test → (test || list_any (nat_eq key) rest) ≡ true → (list_any (nat_eq key) rest ≡ true → IsNoted rest key) → IsNoted (first ∷ rest) key
    go true is found deeper = (0, ap Some (sym (eqb-true key first is)))
    go false is found deeper = let later = deeper found in (suc later.0, later.1)

none-noted : (key : ℕ) (keys : List ℕ) → list_any (nat_eq key) keys ≡ false → IsNoted keys key → ⊥
none-noted key [] none (i, there) = cc
none-noted key (first ∷ rest) none (zero, there) =
    let keys : key ≡ first = cc in
    let same : nat_eq key first ≡ true = eq-eqb key first keys in
    let differ : nat_eq key first ≡ false = first_of_neither (nat_eq key first) (list_any (nat_eq key) rest) none in
    cc
none-noted key (first ∷ rest) none (suc i, there) = none-noted key rest (second_of_neither (nat_eq key first) (list_any (nat_eq key) rest) none) (i, there)

pub given-type : (table : TermTable) (constants : List (ℕ × ℕ)) (declared : List ℕ) (theory : Theory) → Knows table constants declared theory → (name ty : ℕ) →
    Some ty ≡ lookup (nat_eq name) constants → IsGiven table theory name ty
given-type table constants declared theory knows name ty found = knows.constants_given name ty (lookup-entry name ty constants found)

pub no-constant : (table : TermTable) → HaveOneNumber table.names → (constants : List (ℕ × ℕ)) (declared : List ℕ) (theory : Theory) → Knows table constants declared theory → (name : ℕ) →
    name < length table.names → None ≡ lookup (nat_eq name) constants
    → None ≡ generic_type theory (name_at table.names name)
no-constant table one constants declared theory knows name within none = go (generic_type theory (name_at table.names name)) refl
  where
    go : (found : Option HolType) → generic_type theory (name_at table.names name) ≡ found → None ≡ found
    go None is = refl
    go (Some ty) is =
        let listed = knows.constants_listed (name_at table.names name) ty is in
        let same : listed.name_number ≡ name = one listed.name_number name (name_at table.names name) listed.name_is (slice_get-get_or table.names name [] within) in
        absurd (lookup-none name listed.type_number constants none (subst (λ n. IsEntry constants n listed.type_number) same listed.listed))

pub declared-answer : (table : TermTable) → HaveOneNumber table.names → (constants : List (ℕ × ℕ)) (declared : List ℕ) (theory : Theory) → Knows table constants declared theory →
    (name : ℕ) → name < length table.names
    → list_any (nat_eq name) declared ≡ is_declared theory (name_at table.names name)
declared-answer table one constants declared theory knows name within = go (list_any (nat_eq name) declared) refl
  where
    absent : list_any (nat_eq name) declared ≡ false → (test : Bool) → is_declared theory (name_at table.names name) ≡ test → false ≡ test
    absent none false is = refl
    absent none true is =
        let listed = knows.types_listed (name_at table.names name) is in
        let same : listed.number ≡ name = one listed.number name (name_at table.names name) listed.name_is (slice_get-get_or table.names name [] within) in
        absurd (none-noted name declared none (subst (IsNoted declared) same listed.listed))

    go : (test : Bool) → list_any (nat_eq name) declared ≡ test → test ≡ is_declared theory (name_at table.names name)
    go true found = sym (knows.types_declared name (any-noted name declared found)).declares
    go false none = absent none (is_declared theory (name_at table.names name)) refl
