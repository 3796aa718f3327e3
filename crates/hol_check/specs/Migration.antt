-- A log under the header of the second version.
use Rattle.std.specs.Prelude.{◌≡◌, ℕ, List, ◌++◌, Option, Some, Ok}
use Rattle.std.specs.Io.KnownBytes.{Appends}
use Rattle.hol_model.specs.declared.fault.Fault.{Fault}
use Rattle.hol_model.specs.declared.fault.Fault.TheVariants.{Memory, WriteFault, LogFault}
use Rattle.hol_model.specs.Logs.LogLine.{LogVersion}
use Rattle.hol_model.specs.Logs.LogLine.LogVersion.{second_version}
use Rattle.hol_model.specs.Logs.LogLine.LogLine.{header_line}
use Rattle.hol_model.specs.Logs.LogState.{LogState, LogClaim}
use Rattle.hol_logtext.specs.LineText.{line_bytes}
use Rattle.hol_check.specs.Reading.{IsRead}
use Rattle.hol_device_io.specs.Bytes.{AppendsFront}
use Rattle.hol_check.specs.LogAnswers.{log_answer, IsRefusal}
use Rattle.hol_check.specs.Checking.{HasClaims}

-- the text is a header and the rest
pub record HasHeader (text : List ℕ) (version : LogVersion) (rest : List ℕ) : Type 0 where
  pub headed : text ≡ line_bytes (header_line version) ++ rest

-- the new text has the header of the second version in place of the old one's header
pub record IsMigrated (old new : List ℕ) : Type 0 where
  pub version : LogVersion
  pub rest : List ℕ
  pub was : HasHeader old version rest
  pub is : HasHeader new second_version rest

-- the same state under the second version
abbrev pub in_second : LogState → LogState
in_second state = record {
  version = second_version;
  types = state.types;
  terms = state.terms;
  theorems = state.theorems;
  theory = state.theory;
  claims = state.claims;
  is_ended = state.is_ended;
}

-- what is accepted is accepted under the header of the second version, with the same claims; and what has that header stays as it is
pub record MigrationKeepsClaims : Type 0 where
  pub accepted : (old new : List ℕ) (state : LogState) → log_answer old ≡ Ok state → IsMigrated old new → log_answer new ≡ Ok (in_second state)
  pub again : (old new newer : List ℕ) → IsMigrated old new → IsMigrated new newer → newer ≡ new

-- the input is an accepted log with these claims, and the new text is the same log under the header of the second version
pub record IsMigration (input : Option (List ℕ)) (claims : List LogClaim) (new : List ℕ) : Type 0 where
  pub text : List ℕ
  pub read : IsRead input text
  pub checked : HasClaims (Some text) claims
  pub migrated : IsMigrated text new
  pub accepted : HasClaims (Some new) claims

-- the text begins with a header
pub record IsHeaded (text : List ℕ) : Type 0 where
  pub version : LogVersion
  pub rest : List ℕ
  pub has : HasHeader text version rest

-- the migrated log was written
pub record Migrates (input : Option (List ℕ)) (claims : List LogClaim) (written new_written : Option (List ℕ)) : Type 0 where
  pub new : List ℕ
  pub migration : IsMigration input claims new
  pub wrote : Appends written new_written new

-- a front of the migrated log was written
pub record MigratesFront (input written new_written : Option (List ℕ)) : Type 0 where
  pub claims : List LogClaim
  pub new : List ℕ
  pub migration : IsMigration input claims new
  pub wrote : AppendsFront written new_written new

-- the refusals of a log that is a text
abbrev pub IsTextRefusal : Fault → Type 0
IsTextRefusal Memory = Unit {0}
IsTextRefusal (LogFault line cause) = Unit {0}
IsTextRefusal _ = ⊥

-- those of a log that is read and written
abbrev pub IsMigrationRefusal : Fault → Type 0
IsMigrationRefusal WriteFault = Unit {0}
IsMigrationRefusal fault = IsRefusal fault

-- what holds after each fault but that of a sink
abbrev pub UnlessWriteFault : Fault → Type 0 → Type 0
UnlessWriteFault WriteFault Fact = Unit {0}
UnlessWriteFault fault Fact = Fact
