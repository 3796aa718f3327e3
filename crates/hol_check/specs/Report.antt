-- The lines that a program prints for claims and for entries.
use Rattle.std.specs.Prelude.{ℕ, List, [], ◌∷◌, ◌++◌}
use Rattle.hol_model.specs.Logic.Theory.{Entry}
use Rattle.hol_model.specs.Logs.LogState.{LogClaim}
use Rattle.hol_model.specs.Logs.LogClaims.{claim_text}
use Rattle.hol_check.specs.Entries.{entry_text}

abbrev pub lines_of : {A : Type 0} → (A → List ℕ) → List A → List ℕ
lines_of line [] = []
lines_of line (x ∷ xs) = line x ++ lines_of line xs

abbrev pub claim_line : LogClaim → List ℕ
claim_line claim = claim_text claim ++ 10 ∷ []

abbrev pub claim_lines : List LogClaim → List ℕ
claim_lines claims = lines_of claim_line claims

abbrev pub entry_line : Entry → List ℕ
entry_line entry = entry_text entry ++ 10 ∷ []

abbrev pub entry_lines : List Entry → List ℕ
entry_lines entries = lines_of entry_line entries
