-- What is written of a checked log.
use Rattle.std.specs.Prelude.{◌≡◌, ◌⊎◌, ℕ, List, [], ◌∷◌, ◌++◌, Bool, true, false, Option, codes, length, nat_lt, reverse}
use Rattle.std.specs.Io.KnownBytes.{Appends}
use Rattle.hol_model.specs.Logic.Theory.{Entry}
use Rattle.hol_model.specs.Logs.LogState.{LogClaim}
use Rattle.hol_model.specs.Texts.Reading.{Scope}
use Rattle.hol_model.specs.Texts.Scopes.{scope_over}
use Rattle.hol_check_review.specs.Reviews.{IsClaimLine, IsEntryLine}

-- what stands in place of a line that is not printed: a name, and that it is not
pub record IsNotPrinted (line : List ℕ) : Type 0 where
  pub name : List ℕ
  pub reason : List ℕ
  pub spelled : line ≡ name ++ (codes ": (WARNING: not printed" ++ reason)

-- the piece is a line that tells the item, or that it is not printed
pub record IsPiece (Tells : List ℕ → Type 0) (piece : List ℕ) : Type 0 where
  pub line : List ℕ
  pub tells : Tells line ⊎ IsNotPrinted line
  pub ended : piece ≡ line ++ codes "\n"

abbrev pub IsEntryPiece : Scope → Entry → List ℕ → Type 0
IsEntryPiece scope entry piece = IsPiece (IsEntryLine scope entry) piece

abbrev pub has_hypotheses : LogClaim → Bool
has_hypotheses claim = nat_lt 0 (length claim.sequent.hypotheses)

-- one is written where it is of the kind that is wanted, with hypotheses or without
abbrev pub IsPieceWhere : Bool → Bool → (List ℕ → Type 0) → List ℕ → Type 0
IsPieceWhere true true Tells piece = IsPiece Tells piece
IsPieceWhere false false Tells piece = IsPiece Tells piece
IsPieceWhere _ _ Tells piece = piece ≡ []

abbrev pub IsClaimPiece : Scope → Bool → LogClaim → List ℕ → Type 0
IsClaimPiece scope wanted claim piece = IsPieceWhere wanted (has_hypotheses claim) (IsClaimLine scope claim) piece

-- the text is a piece for each of the items, one after another
pub data ArePieces {A : Type 0} (Tells : A → List ℕ → Type 0) : List A → List ℕ → Type 0 where
  none : ArePieces Tells [] []
  one_more : (items : List A) (item : A) (text piece : List ℕ) → ArePieces Tells items text → Tells item piece → ArePieces Tells (items ++ item ∷ []) (text ++ piece)

-- a text for which this holds was written
pub record Writes (written now : Option (List ℕ)) (Holds : List ℕ → Type 0) : Type 0 where
  pub text : List ℕ
  pub holds : Holds text
  pub wrote : Appends written now text

-- the text tells the entries, then each claim without hypotheses, then each with some, over the theory of the entries
pub record IsReview (entries : List Entry) (claims : List LogClaim) (text : List ℕ) : Type 0 where
  pub theory : List ℕ
  pub plain : List ℕ
  pub conditional : List ℕ
  pub entries_are : ArePieces (IsEntryPiece (scope_over (reverse entries))) entries theory
  pub plain_are : ArePieces (IsClaimPiece (scope_over (reverse entries)) false) claims plain
  pub conditional_are : ArePieces (IsClaimPiece (scope_over (reverse entries)) true) claims conditional
  pub spelled : text ≡ codes "theory:\n" ++ (theory ++ (codes "claims without hypotheses:\n" ++ (plain ++ (codes "claims with hypotheses:\n" ++ conditional))))
