-- Connectives of words, bit by bit.
use Rattle.std.proofs.Common.{◌≡◌, ℕ, zero, suc, ◌<◌, ◌+◌, ◌-◌, ◌%◌, ◌^◌, List, [], ◌∷◌, map, get_or, refl, true, false, not, min, max, ◌∙◌, ap, arith, if◌then◌else◌}
use Rattle.std.specs.Prelude.{nat_eq, bit_and, bit_or, ◌&&◌, ◌||◌}
use Rattle.std.specs.Int.{bit_at}
use lib.Bits.{bit_xor}
use Rattle.std.proofs.Common.{w64}
use Rattle.std.proofs.lemmas.Nat.{xor_lt}
use Rattle.std.proofs.lemmas.Nat.Bits.{bit_at_and, bit_at_or, bit_at_xor, bit_at_not, bit_at-lt, bit_at_ones, bit_at-zero}
use Rattle.std.proofs.lemmas.Bool.Decides.{nat_tests}
use Rattle.hol_taut_formulas.specs.Words.{is_set}

both : (a b : ℕ) → a < 2 → b < 2 → nat_eq (min a b) 1 ≡ (nat_eq a 1 && nat_eq b 1)
both a b s t = grind (arith, nat_tests)

either : (a b : ℕ) → a < 2 → b < 2 → nat_eq (max a b) 1 ≡ (nat_eq a 1 || nat_eq b 1)
either a b s t = grind (arith, nat_tests)

differ : (a b : ℕ) → a < 2 → b < 2 → nat_eq (1 - (a + b) % 2) 1 ≡ (if nat_eq a 1 then nat_eq b 1 else not (nat_eq b 1))
differ a b s t = grind (arith, nat_tests)

other : (a : ℕ) → a < 2 → nat_eq (1 - a) 1 ≡ not (nat_eq a 1)
other a s = grind (arith, nat_tests)

pub is_set_and : (a b row : ℕ) → is_set row (bit_and a b) ≡ (is_set row a && is_set row b)
is_set_and a b row = ap (λ n. nat_eq n 1) (bit_at_and a b row) ∙ both (bit_at a row) (bit_at b row) (bit_at-lt a row) (bit_at-lt b row)

pub is_set_or : (a b row : ℕ) → is_set row (bit_or a b) ≡ (is_set row a || is_set row b)
is_set_or a b row = ap (λ n. nat_eq n 1) (bit_at_or a b row) ∙ either (bit_at a row) (bit_at b row) (bit_at-lt a row) (bit_at-lt b row)

pub is_set_not : (a row : ℕ) → a < 2 ^ 64 → row < 64 → is_set row (2 ^ 64 - 1 - a) ≡ not (is_set row a)
is_set_not a row fits within = ap (λ n. nat_eq n 1) (bit_at_not w64 a row fits within) ∙ other (bit_at a row) (bit_at-lt a row)

pub is_set_implies : (a b row : ℕ) → a < 2 ^ 64 → row < 64 → is_set row (bit_or (2 ^ 64 - 1 - a) b) ≡ (not (is_set row a) || is_set row b)
is_set_implies a b row fits within = is_set_or (2 ^ 64 - 1 - a) b row ∙ ap (λ t. t || is_set row b) (is_set_not a row fits within)

pub is_set_iff : (a b row : ℕ) → a < 2 ^ 64 → b < 2 ^ 64 → row < 64 → is_set row (2 ^ 64 - 1 - bit_xor a b) ≡ (if is_set row a then is_set row b else not (is_set row b))
is_set_iff a b row a_fits b_fits within =
    ap (λ n. nat_eq n 1) (bit_at_not w64 (bit_xor a b) row (xor_lt 64 a b a_fits b_fits) within ∙ ap (λ n. 1 - n) (bit_at_xor a b row))
    ∙ differ (bit_at a row) (bit_at b row) (bit_at-lt a row) (bit_at-lt b row)

pub is_set_all : (row : ℕ) → row < 64 → is_set row (2 ^ 64 - 1) ≡ true
is_set_all row within = ap (λ n. nat_eq n 1) (bit_at_ones 64 row within)

pub is_set_none : (row : ℕ) → is_set row 0 ≡ false
is_set_none row = ap (λ n. nat_eq n 1) (bit_at-zero row)

-- the value at a place in a row is the bit of the word there
pub bit_of_place : (columns : List ℕ) (b place : ℕ) → is_set b (get_or columns place 0) ≡ get_or (map (is_set b) columns) place false
bit_of_place [] b place = is_set_none b
bit_of_place (column ∷ columns) b zero = refl
bit_of_place (column ∷ columns) b (suc place) = bit_of_place columns b place
