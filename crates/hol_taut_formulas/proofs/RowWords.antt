-- Rows as the bits of words.
use Rattle.std.proofs.Common.{◌⊎◌, ◌*◌, ◌%◌, inl, inr, w64, ◌≡◌, ℕ, zero, suc, ◌<◌, ◌≤◌, ◌+◌, ◌-◌, ◌^◌, List, []}
use Rattle.std.proofs.Common.{◌∷◌, ◌++◌, Bool, true, false, not, Some, None, map, drop, refl, sym, ◌∙◌, ap, ap₂, arith}
use Rattle.std.specs.Prelude.{nat_eq}
use lib.Count
use Rattle.std.specs.Int.{trailing_ones}
use Rattle.std.proofs.lemmas.Bool.{cases_lt}
use Rattle.std.proofs.lemmas.List.{map-append}
use Rattle.std.proofs.lemmas.Nat.Bits.{bit_at-trailing_ones}
use Rattle.std.specs.Option.{option_map}
use Rattle.std.specs.List.{find, range_with_len}
use Rattle.hol_model.specs.Propositional.Tautologies.{rows}
use Rattle.hol_taut_formulas.specs.declared.numbered.Numbered.{Numbered}
use Rattle.hol_taut_formulas.specs.NumberedFormulas.{truth_of, is_true_at}
use Rattle.hol_taut_formulas.specs.Words.{is_set, in_each_row, HasValues}
use Rattle.hol_taut_formulas.specs.declared.decision.TheConstants.{MASKS}
use Rattle.hol_taut_formulas.proofs.Bits.{is_set_all, is_set_none, bit_of_place}
use Rattle.hol_taut_formulas.proofs.Rows.{find-map, option_map-twice, find-none, find-first, first_after}

-- the row of so many values at a bit of the masks
abbrev pub mask_row : ℕ → ℕ → List Bool
mask_row n b = map (is_set b) (drop (6 - n) MASKS)

pub rows_are_bits : (n : ℕ) → n ≤ 6 → rows n ≡ map (mask_row n) (range_with_len 0 (2 ^ n))
rows_are_bits zero few = refl
rows_are_bits (suc zero) few = refl
rows_are_bits (suc (suc zero)) few = refl
rows_are_bits (suc (suc (suc zero))) few = refl
rows_are_bits (suc (suc (suc (suc zero)))) few = refl
rows_are_bits (suc (suc (suc (suc (suc zero))))) few = refl
rows_are_bits (suc (suc (suc (suc (suc (suc zero)))))) few = refl
rows_are_bits (suc (suc (suc (suc (suc (suc (suc n))))))) few = absurd (omega arith)

pub shifted : (n : ℕ) → n ≤ 6 → 1 * 2 ^ n % 2 ^ 32 ≡ 2 ^ n
shifted zero few = refl
shifted (suc zero) few = refl
shifted (suc (suc zero)) few = refl
shifted (suc (suc (suc zero))) few = refl
shifted (suc (suc (suc (suc zero)))) few = refl
shifted (suc (suc (suc (suc (suc zero))))) few = refl
shifted (suc (suc (suc (suc (suc (suc zero)))))) few = refl
shifted (suc (suc (suc (suc (suc (suc (suc n))))))) few = absurd (omega arith)

pub few_rows : (n : ℕ) → n ≤ 6 → 2 ^ n ≤ 64
few_rows zero few = omega arith
few_rows (suc zero) few = omega arith
few_rows (suc (suc zero)) few = omega arith
few_rows (suc (suc (suc zero))) few = omega arith
few_rows (suc (suc (suc (suc zero)))) few = omega arith
few_rows (suc (suc (suc (suc (suc zero))))) few = omega arith
few_rows (suc (suc (suc (suc (suc (suc zero)))))) few = omega arith
few_rows (suc (suc (suc (suc (suc (suc (suc n))))))) few = absurd (omega arith)

-- ---- the values in a row

bit_in_each_row : (b : ℕ) → b < 64 → (row : List Bool) → map (is_set b) (map in_each_row row) ≡ row
bit_in_each_row b within [] = refl
bit_in_each_row b within (true ∷ row) = ap₂ (λ x xs. x ∷ xs) (is_set_all b within) (bit_in_each_row b within row)
bit_in_each_row b within (false ∷ row) = ap₂ (λ x xs. x ∷ xs) (is_set_none b) (bit_in_each_row b within row)

-- the words of known values, and of so many more
abbrev pub words : List Bool → ℕ → List ℕ
words row n = map in_each_row row ++ drop (6 - n) MASKS

pub row_of_words : (row : List Bool) (n b : ℕ) → b < 64 → map (is_set b) (words row n) ≡ row ++ mask_row n b
row_of_words row n b within = map-append (is_set b) (map in_each_row row) (drop (6 - n) MASKS) ∙ ap (λ values. values ++ mask_row n b) (bit_in_each_row b within row)

value_of_bit : (formula : Numbered) (row : List Bool) (n word b : ℕ) → HasValues formula (words row n) word → b < 64
    → is_true_at (row ++ mask_row n b) formula ≡ is_set b word
value_of_bit formula row n word b has within =
    ap (λ values. is_true_at values formula) (sym (row_of_words row n b within))
    ∙ (λ i. truth_of (λ place. sym (bit_of_place (words row n) b place) i) formula)
    ∙ sym (has.bits b within)

-- ---- the first row

ones_before : (word i : ℕ) → word < 2 ^ 64 → i < trailing_ones w64 word → i < 64 → is_set i word ≡ true
ones_before word i fits before within = go (cases_lt (word + 1) (2 ^ 64))
  where
    go : (word + 1 < 2 ^ 64) ⊎ (2 ^ 64 ≤ word + 1) → is_set i word ≡ true
    go (inl some) = ap (λ n. nat_eq n 1) ((bit_at-trailing_ones w64 word some).2 i before)
    go (inr all) = let same : word ≡ 2 ^ 64 - 1 = omega arith in ap (is_set i) same ∙ is_set_all i within

zero_at : (word : ℕ) → word < 2 ^ 64 → trailing_ones w64 word < 64 → is_set (trailing_ones w64 word) word ≡ false
unfolding lib.Count.count_trailing_zeros
zero_at word fits within = go (cases_lt (word + 1) (2 ^ 64))
  where
    go : (word + 1 < 2 ^ 64) ⊎ (2 ^ 64 ≤ word + 1) → is_set (trailing_ones w64 word) word ≡ false
    go (inl some) = ap (λ n. nat_eq n 1) (bit_at-trailing_ones w64 word some).1
    go (inr all) =
        let same : word ≡ 2 ^ 64 - 1 = omega arith in
        let none : trailing_ones w64 word ≡ 64 = ap (trailing_ones w64) same in
        absurd (omega (arith, none))

search_in_word : (formula : Numbered) (row : List Bool) (n : ℕ) → n ≤ 6
    → first_after (λ values. not (is_true_at values formula)) row n
    ≡ option_map (λ b. row ++ mask_row n b) (find (λ b. not (is_true_at (row ++ mask_row n b) formula)) (range_with_len 0 (2 ^ n)))
search_in_word formula row n few =
    ap (λ all. option_map (λ rest. row ++ rest) (find (λ rest. not (is_true_at (row ++ rest) formula)) all)) (rows_are_bits n few)
    ∙ ap (λ o. option_map (λ rest. row ++ rest) o) (find-map (λ rest. not (is_true_at (row ++ rest) formula)) (mask_row n) (range_with_len 0 (2 ^ n)))
    ∙ option_map-twice (λ rest. row ++ rest) (mask_row n) (find (λ b. not (is_true_at (row ++ mask_row n b) formula)) (range_with_len 0 (2 ^ n)))

pub none_in_word : (formula : Numbered) (row : List Bool) (n word : ℕ) → n ≤ 6 → HasValues formula (words row n) word
    → 2 ^ n ≤ trailing_ones w64 word → None ≡ first_after (λ values. not (is_true_at values formula)) row n
none_in_word formula row n word few has past =
    sym (search_in_word formula row n few
    ∙ ap (λ o. option_map (λ b. row ++ mask_row n b) o) (find-none (λ b. not (is_true_at (row ++ mask_row n b) formula)) 0 (2 ^ n) (λ i within.
    let below : i < 64 = omega (arith, few_rows n few, within) in
    ap not (value_of_bit formula row n word i has below ∙ ones_before word i has.fits (omega (arith, within, past)) below))))

pub first_in_word : (formula : Numbered) (row : List Bool) (n word : ℕ) → n ≤ 6 → HasValues formula (words row n) word
    → trailing_ones w64 word < 2 ^ n → Some (map (is_set (trailing_ones w64 word)) (words row n)) ≡ first_after (λ values. not (is_true_at values formula)) row n
first_in_word formula row n word few has within =
    let place = trailing_ones w64 word in
    let below : place < 64 = omega (arith, few_rows n few, within) in
    ap (λ values. Some values) (row_of_words row n place below)
    ∙ sym (search_in_word formula row n few
    ∙ ap (λ o. option_map (λ b. row ++ mask_row n b) o) (find-first (λ b. not (is_true_at (row ++ mask_row n b) formula)) 0 (2 ^ n) place (omega arith) (omega (arith, within))
    (ap not (value_of_bit formula row n word place has below ∙ zero_at word has.fits below))
    (λ i before. ap not (value_of_bit formula row n word i has (omega (arith, before, below)) ∙ ones_before word i has.fits before (omega (arith, before, below))))))
