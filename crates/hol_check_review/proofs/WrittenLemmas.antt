-- Pieces that are written one after another.
use Rattle.std.proofs.Common.{◌≡◌, ◌<◌, ◌+◌, ℕ, List, [], ◌++◌, Option, true, false, take, length, reverse, sym, subst}
use Rattle.std.specs.List.{slice_index_or}
use Rattle.std.proofs.lemmas.List.{take_more}
use Rattle.std.specs.Io.KnownBytes.{Appends}
use Rattle.std.proofs.KnownBytes.{Appends-nil, Appends-trans}
use Rattle.std.specs.Prelude.{codes}
use Rattle.hol_model.specs.Logic.Theory.{Entry}
use Rattle.hol_model.specs.Logs.LogState.{LogClaim}
use Rattle.hol_model.specs.Texts.Reading.{Scope}
use Rattle.hol_model.specs.Texts.Scopes.{scope_over}
use Rattle.hol_check_review.specs.Written.{ArePieces, none, one_more, Writes, IsEntryPiece, IsClaimPiece, IsReview}

module _ {A : Type 0} (Tells : A → List ℕ → Type 0) where
  -- nothing was written
  pub nothing_written : (a : Option (List ℕ)) → Writes a a (ArePieces Tells [])
  nothing_written a = record { text = []; holds = none; wrote = Appends-nil a }

  -- one piece more was written
  pub piece_written : (a b c : Option (List ℕ)) (items : List A) (at : ℕ) (default : A) (piece : List ℕ) → at < length items → Writes a b (ArePieces Tells (take at items))
      → Tells (slice_index_or items at default) piece → Appends b c piece → Writes a c (ArePieces Tells (take (at + 1) items))
  piece_written a b c items at default piece there before tells wrote = record {
    text = before.text ++ piece;
    holds = subst (λ (list : List A). ArePieces Tells list (before.text ++ piece)) (sym (take_more items at default there))
        (one_more (take at items) (slice_index_or items at default) before.text piece before.holds tells);
    wrote = Appends-trans a b c before.text piece before.wrote wrote;
  }

-- all of a review was written
pub review_written : (entries : List Entry) (claims : List LogClaim) (scope : Scope) (a b c d e f g : Option (List ℕ)) (first second third : List ℕ)
    → scope ≡ scope_over (reverse entries)
    → first ≡ codes "theory:\n" → Appends a b first → Writes b c (ArePieces (IsEntryPiece scope) entries)
    → second ≡ codes "claims without hypotheses:\n" → Appends c d second → Writes d e (ArePieces (IsClaimPiece scope false) claims)
    → third ≡ codes "claims with hypotheses:\n" → Appends e f third → Writes f g (ArePieces (IsClaimPiece scope true) claims)
    → Writes a g (IsReview entries claims)
review_written entries claims scope a b c d e f g first second third same is_first began theory is_second went plain is_third ended conditional = record {
  text = first ++ (theory.text ++ (second ++ (plain.text ++ (third ++ conditional.text))));
  holds = record {
    theory = theory.text;
    plain = plain.text;
    conditional = conditional.text;
    entries_are = subst (λ (s : Scope). ArePieces (IsEntryPiece s) entries theory.text) same theory.holds;
    plain_are = subst (λ (s : Scope). ArePieces (IsClaimPiece s false) claims plain.text) same plain.holds;
    conditional_are = subst (λ (s : Scope). ArePieces (IsClaimPiece s true) claims conditional.text) same conditional.holds;
    spelled = λ i. is_first i ++ (theory.text ++ (is_second i ++ (plain.text ++ (is_third i ++ conditional.text))));
  };
  wrote =
      Appends-trans a b g first (theory.text ++ (second ++ (plain.text ++ (third ++ conditional.text)))) began
      (Appends-trans b c g theory.text (second ++ (plain.text ++ (third ++ conditional.text))) theory.wrote
      (Appends-trans c d g second (plain.text ++ (third ++ conditional.text)) went
      (Appends-trans d e g plain.text (third ++ conditional.text) plain.wrote
      (Appends-trans e f g third conditional.text ended conditional.wrote))));
}
