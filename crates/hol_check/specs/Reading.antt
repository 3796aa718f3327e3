-- What is left of a log's text while it is read.
use Rattle.std.specs.Prelude.{◌≡◌, ◌≤◌, ◌<◌, ◌+◌, ℕ, List, [], ◌∷◌, ◌++◌, Bool, true, false, take, drop, length, Option, None, Some, Result, OnOk, IfSome, IsErrOf}
use Rattle.std.specs.Io.KnownBytes.{Consumes}
use Rattle.hol_model.specs.Texts.KnownText.{Tells}
use Rattle.hol_model.specs.declared.fault.Fault.{Fault}
use Rattle.hol_model.specs.declared.fault.Fault.TheVariants.{ReadFault, TooLong}
use Rattle.hol_model.specs.declared.limits.TheConstants.{TEXT_BYTES_LIMIT}
use Rattle.hol_device_io.specs.Bytes.{TakesWithin}
use Rattle.hol_logtext.specs.Fields.{line_feed}
use Rattle.hol_check.specs.declared.reading.Reading.TheInside.{Inside}

-- the bytes that the source has given and that are not handed out yet, and how many were handed out
pub record Unread : Type 0 where
  pub pending : List ℕ
  pub given : ℕ

abbrev pub unread_of : Inside → Unread
unread_of inside = record { pending = drop inside.next (take inside.filled inside.bytes); given = inside.given }

pub record IsReading (inside : Inside) : Type 0 where
  pub placed : inside.next ≤ inside.filled
  pub filled : inside.filled ≤ length inside.bytes
  pub room : length inside.bytes ≡ 4096
  pub within_limit : inside.given + inside.filled ≤ TEXT_BYTES_LIMIT + inside.next

-- of the input these bytes were handed out; the pending ones and what the source has left are still to come
pub record IsUnread (input : Option (List ℕ)) (handed : List ℕ) (unread : Unread) (left : Option (List ℕ)) : Type 0 where
  pub told : Consumes input left (handed ++ unread.pending)
  pub counted : unread.given ≡ length handed

-- all of the input was handed out
pub record IsRead (input : Option (List ℕ)) (handed : List ℕ) : Type 0 where
  pub whole : Tells input handed
  pub within_limit : length handed ≤ TEXT_BYTES_LIMIT

-- the next byte was handed out, or there is none
abbrev pub IsNext : Option (List ℕ) → List ℕ → Unread → Option (List ℕ) → Option ℕ → Type 0
IsNext input handed unread left None = IsRead input handed
IsNext input handed unread left (Some byte) = IsUnread input (handed ++ byte ∷ []) unread left

-- the bytes up to the next line feed and that line feed were handed out, or all bytes that were left
abbrev pub IsLine : Option (List ℕ) → List ℕ → List ℕ → Unread → Option (List ℕ) → Bool → Type 0
IsLine input handed line unread left true = IsUnread input ((handed ++ line) ++ line_feed ∷ []) unread left
IsLine input handed line unread left false = IsRead input (handed ++ line)

-- all of the input was handed out, more than these bytes or these alone
pub record IsReadOn (input : Option (List ℕ)) (handed : List ℕ) : Type 0 where
  pub rest : List ℕ
  pub read : IsRead input (handed ++ rest)

-- these bytes were handed out, and perhaps more
pub record IsSkipped (input : Option (List ℕ)) (handed : List ℕ) (unread : Unread) (left : Option (List ℕ)) : Type 0 where
  pub more : List ℕ
  pub still : IsUnread input (handed ++ more) unread left

-- no more bytes than a text may have were taken of the input, or all of it was handed out
pub data StaysWithin (input left : Option (List ℕ)) : Type 0 where
  taken_within : TakesWithin input left TEXT_BYTES_LIMIT → StaysWithin input left
  read_whole : {text : List ℕ} → IsRead input text → StaysWithin input left

-- ReadFault is answered where the source has failed, and there alone
pub record TellsFailure {T : Type 0} (result : Result T Fault) (has_failed : Bool) : Type 0 where
  pub read_fault : IsErrOf result ReadFault → has_failed ≡ true
  pub told : has_failed ≡ true → IsErrOf result ReadFault
  pub unfailed : OnOk result (has_failed ≡ false)

-- TooLong is answered for an input that is longer than the limit on texts
abbrev pub TellsLength : {T : Type 0} → Result T Fault → Option (List ℕ) → Type 0
TellsLength result input = IsErrOf result TooLong → IfSome input (λ told. TEXT_BYTES_LIMIT < length told)
