-- What pairs of numbers put is named by what they put for numbers.
use Rattle.std.proofs.Common.{◌≡◌, ℕ, List, [], ◌∷◌, Bool, true, false, sym, ◌∙◌, ap, Some, if◌then◌else◌}
use Rattle.std.specs.Prelude.{slice_get, nat_eq, find}
use Rattle.std.specs.Option.{option_map_or}
use Rattle.std.specs.Bool.{Decides}
use Rattle.std.proofs.lemmas.Bool.{eqb-true, eq-eqb}
use Rattle.hol_model.proofs.Tests.{same_answer}
use Rattle.hol_check_terms.specs.Growth.{IsLonger}
use Rattle.hol_check_terms.specs.Table.{HaveOneNumber}
use Rattle.hol_check_changes.specs.Pairs.{replaced_number, ArePairs}
use Rattle.hol_check_terms.proofs.TableLemmas.{slice_get-longer}

pub replaced-named : {Value : Type 0} (e : Value → Value → Bool) → ((a b : Value) → Decides (e a b) (a ≡ b)) → (values : List Value) → HaveOneNumber values
    → (pairs : List (ℕ × ℕ)) (theta : List (Value × Value)) → ArePairs values pairs theta → (old : ℕ) (value : Value) → slice_get values old ≡ Some value
    → slice_get values (replaced_number pairs old) ≡ Some (option_map_or (λ pair. pair.0) (find (λ pair. e pair.1 value) theta) value)
replaced-named e decides values one [] [] are old value there = there
replaced-named {Value} e decides values one (pair ∷ pairs) (named ∷ theta) are old value there =
    go (nat_eq pair.1 old) (e named.1 value) (same_answer (nat_eq pair.1 old) (e named.1 value) named_first numbered_first) are.0
    (replaced-named e decides values one pairs theta are.2 old value there)
  where
    named_first : nat_eq pair.1 old ≡ true → e named.1 value ≡ true
    named_first passed =
        let both : Some named.1 ≡ Some value = sym are.1 ∙ (ap (slice_get values) (eqb-true pair.1 old passed) ∙ there) in
        let same : named.1 ≡ value = cc in
        (decides named.1 value).1 same

    numbered_first : e named.1 value ≡ true → nat_eq pair.1 old ≡ true
    numbered_first passed = eq-eqb pair.1 old (one pair.1 old value (are.1 ∙ ap Some ((decides named.1 value).0 passed)) there)

    go : (p q : Bool) → p ≡ q → slice_get values pair.0 ≡ Some named.0
        → slice_get values (option_map_or (λ other. other.0) (find (λ other. nat_eq other.1 old) pairs) old) ≡ Some (option_map_or (λ other. other.0) (find (λ other. e other.1 value) theta) value)
        → slice_get values (option_map_or (λ other. other.0) (if p then Some pair else find (λ other. nat_eq other.1 old) pairs) old) ≡ Some
        (option_map_or (λ other. other.0) (if q then Some named else find (λ other. e other.1 value) theta) value)
    go true true same first rest = first
    go false false same first rest = rest
    go true false same first rest = cc
    go false true same first rest = cc
replaced-named e decides values one [] (named ∷ theta) are old value there = absurd are
replaced-named e decides values one (pair ∷ pairs) [] are old value there = absurd are

pub pairs-grown : {Value : Type 0} (values now : List Value) → IsLonger values now → (pairs : List (ℕ × ℕ)) (theta : List (Value × Value)) → ArePairs values pairs theta → ArePairs now pairs theta
pairs-grown values now longer [] [] are = tt
pairs-grown values now longer (pair ∷ pairs) (named ∷ theta) are = (
  ap (λ l. slice_get l pair.0) longer.is_added ∙ slice_get-longer values longer.added pair.0 named.0 are.0,
  ap (λ l. slice_get l pair.1) longer.is_added ∙ slice_get-longer values longer.added pair.1 named.1 are.1,
  pairs-grown values now longer pairs theta are.2,
)
pairs-grown values now longer [] (named ∷ theta) are = absurd are
pairs-grown values now longer (pair ∷ pairs) [] are = absurd are
