-- What the rules add to the journal of a session.
use Rattle.std.specs.Prelude.{◌≡◌, Result, Ok, Err, IfOk}
use Rattle.hol_model.specs.declared.fault.Fault.{Fault}
use Rattle.hol_model.specs.Kernel.Theorem.{Theorem}
use Rattle.hol_journal.specs.Journal.{Journal, Recorded, IsMade}
use Rattle.hol_journal.specs.Growth.{IsGrown, Continues}
use Rattle.hol_script_session.specs.declared.reply.Refused.{Refused}
use Rattle.hol_script_session.specs.declared.session.Session.{Session}

-- the session with this journal
abbrev pub over_journal : Session → Journal → Session
over_journal session recorder = record session { library = record session.library { recorder = recorder } }

-- after a rule the journal has grown over the same theory, what the rule answers is held, and all else is as before
pub record GrowsJournal (old new : Session) (result : Result Recorded Fault) : Type 0 where
  pub continues : Continues old.library.recorder new.library.recorder result
  pub kept : new ≡ over_journal old new.library.recorder

-- the journal has grown over the same theory, its recorder made what is answered, and all else is as before
pub record MakesTheorem (old new : Session) (result : Result Recorded Fault) : Type 0 where
  pub grown : IsGrown old.library.recorder new.library.recorder
  pub theory : new.library.recorder.theory ≡ old.library.recorder.theory
  pub made : IfOk result (IsMade new.library.recorder)
  pub kept : new ≡ over_journal old new.library.recorder

-- the theorem of what was recorded
abbrev pub theorem_given : Result Recorded Refused → Result Theorem Refused
theorem_given (Ok made) = Ok made.theorem
theorem_given (Err refused) = Err refused

-- the refusal without its row
abbrev pub without_row : Result Recorded Refused → Result Recorded Fault
without_row (Ok made) = Ok made
without_row (Err refused) = Err refused.fault
