-- What holds of noted numbers after one more.
use Rattle.std.proofs.Common.{◌≡◌, ℕ, List, Bool, true, false, not, refl, sym, subst, inl, inr, Some}
use Rattle.std.specs.Prelude.{slice_get}
use Rattle.std.proofs.Math.Bool.{beq}
use Rattle.hol_check_terms.specs.Table.{IsPut}
use Rattle.hol_check_terms.specs.Numbers.{IsNoted, IsNotedWhere}
use Rattle.hol_check_terms.proofs.TableLemmas.{slice_get_cases}

pub noted-all : (P : ℕ → Type 0) (answer wanted : Bool) (number : ℕ) (numbers now : List ℕ) → ((other : ℕ) → IsNoted numbers other → P other) → (answer ≡ wanted → P number) →
    IsNotedWhere answer wanted number numbers now
    → (other : ℕ) → IsNoted now other → P other
noted-all P answer wanted number numbers now all this noted other there =
    elim noted.noted [
      | inl unchanged ↦ all other (there.0, subst (λ l. slice_get l there.0 ≡ Some other) unchanged there.1)
      | inr put ↦ put_in put.0 put.1
    ]
  where
    put_in : answer ≡ wanted → IsPut number numbers now → P other
    put_in is put =
        elim put.put [
          | inl unchanged ↦ all other (there.0, subst (λ l. slice_get l there.0 ≡ Some other) unchanged there.1)
          | inr added ↦ (
              elim (slice_get_cases numbers number there.0 other (subst (λ l. slice_get l there.0 ≡ Some other) added.0 there.1)) [
                | inl early ↦ all other (there.0, early)
                | inr last ↦ subst P (sym last.1) (this is)
              ])
        ]

pub same_answers : (answer wanted : Bool) → not (beq answer wanted) ≡ false → answer ≡ wanted
same_answers true true same = refl
same_answers false false same = refl
same_answers true false same = cc
same_answers false true same = cc
