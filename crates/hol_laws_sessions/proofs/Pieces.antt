-- Each text has pieces.
use Rattle.std.proofs.Common.{◌≡◌, ℕ, zero, suc, ◌+◌, ◌≤◌, List, [], ◌∷◌, ◌++◌, length, refl, ap, ◌∙◌, ◌⊎◌, inl, inr, arith, Bool, true, false, ◌==◌, ◌&&◌, ◌||◌, length-append, eqb-true}
use Rattle.hol_model_sessions.specs.Script.{begins_mark, has_mark, IsCut, Cuts}
use Rattle.hol_model.proofs.Tests.{first_of_both, second_of_both}

-- what stands up to the first mark, or that there is none
abbrev FirstCut : List ℕ → Type 0
FirstCut bytes = (has_mark bytes ≡ false) ⊎ ((piece : List ℕ) × (rest : List ℕ) × IsCut bytes piece rest)

neither : (p q : Bool) → p ≡ false → q ≡ false → (p || q) ≡ false
neither p q first second = rw (first, second) refl

-- the first byte of a piece with a mark's byte behind it
begins-same : (a b : ℕ) (rest piece behind : List ℕ) → b ∷ rest ≡ piece ++ 59 ∷ 59 ∷ behind → begins_mark (a ∷ b ∷ rest) ≡ false → begins_mark (a ∷ (piece ++ 59 ∷ [])) ≡ false
begins-same a b rest [] behind whole none = (let same : b ≡ 59 = cc in rw same at none)
begins-same a b rest (x ∷ piece) behind whole none = (let same : b ≡ x = cc in rw same at none)

first_cut : (bytes : List ℕ) → FirstCut bytes
first_cut [] = inl refl
first_cut (a ∷ []) = inl refl
first_cut (a ∷ b ∷ rest) = go ((a == 59) && (b == 59)) refl (first_cut (b ∷ rest))
  where
    go : (test : Bool) → begins_mark (a ∷ b ∷ rest) ≡ test → FirstCut (b ∷ rest) → FirstCut (a ∷ b ∷ rest)
    go true marked deeper =
        let first : a ≡ 59 = eqb-true a 59 (first_of_both (a == 59) (b == 59) marked) in
        let second : b ≡ 59 = eqb-true b 59 (second_of_both (a == 59) (b == 59) marked) in
        inr ([], rest, record { whole = λ i. first i ∷ second i ∷ rest; first = refl })
    go false none (inl further) = inl (neither (begins_mark (a ∷ b ∷ rest)) (has_mark (b ∷ rest)) none further)
    go false none (inr (piece, behind, cut)) = inr (
      a ∷ piece,
      behind,
      record {
        whole = ap (λ l. a ∷ l) cut.whole;
        first = neither (begins_mark (a ∷ (piece ++ 59 ∷ []))) (has_mark (piece ++ 59 ∷ [])) (begins-same a b rest piece behind cut.whole none) cut.first;
      },
    )

-- the pieces of a text
pub record HasPieces (bytes : List ℕ) : Type 0 where
  pub pieces : List (List ℕ)
  pub last : List ℕ
  pub cuts : Cuts bytes pieces last

pieces_within : (fuel : ℕ) (bytes : List ℕ) → length bytes ≤ fuel → HasPieces bytes
pieces_within zero [] within = record { pieces = []; last = []; cuts = (refl, refl) }
pieces_within zero (a ∷ bytes) within = absurd (omega (arith, within))
pieces_within (suc fuel) bytes within = go (first_cut bytes) (λ rest less. pieces_within fuel rest less)
  where
    go : FirstCut bytes → ((rest : List ℕ) → length rest ≤ fuel → HasPieces rest) → HasPieces bytes
    go (inl none) deeper = record { pieces = []; last = bytes; cuts = (refl, none) }
    go (inr (piece, rest, cut)) deeper =
        let longer : length bytes ≡ length piece + length (59 ∷ 59 ∷ rest) = ap length cut.whole ∙ length-append piece (59 ∷ 59 ∷ rest) in
        let shorter : length rest ≤ fuel = omega arith in
        let more : HasPieces rest = deeper rest shorter in
        record { pieces = piece ∷ more.pieces; last = more.last; cuts = (rest, cut, more.cuts) }

pub has_pieces : (bytes : List ℕ) → HasPieces bytes
has_pieces bytes = pieces_within (length bytes) bytes (omega arith)
