-- What is answered for a line that adds a term.
use Rattle.std.specs.Prelude.{◌≡◌, false, Result, Ok, Err, IfOk, IfErr}
use Rattle.hol_model.specs.declared.fault.Fault.{Fault}
use Rattle.hol_model.specs.declared.fault.Fault.TheVariants.{Memory}
use Rattle.hol_model.specs.declared.fault.Cause.{Cause}
use Rattle.hol_model.specs.declared.fault.Cause.TheVariants.{Large}
use Rattle.hol_model.specs.Terms.NamedTerm.{NamedTerm, is_within_limits}
use Rattle.hol_check_terms.specs.Terms.{TermTable}
use Rattle.hol_check_written.specs.Written.{Writes}
use Rattle.hol_check_written.specs.declared.written.Written.{Written}
use Rattle.hol_check_written.specs.declared.written.WrittenShape.{WrittenShape}
use Rattle.hol_check_rules.specs.declared.state.Addition.{Addition}
use Rattle.hol_check_rules.specs.declared.state.Addition.TheVariants.{TermLine}

-- the addition is a line of this shape, which writes the term
pub record AddsTerm (term : NamedTerm) (shape : WrittenShape) (table : TermTable) (addition : Addition) : Type 0 where
  pub written : Written
  pub is_added : addition ≡ TermLine written
  pub is_shape : written.shape ≡ shape
  pub writes : Writes table term written

-- a limit that the term passes refuses it
pub record IsLarge (term : NamedTerm) (cause : Cause) : Type 0 where
  pub is_cause : cause ≡ Large
  pub is_past : is_within_limits term ≡ false

abbrev pub IsTermAnswer : NamedTerm → WrittenShape → TermTable → Result Addition Cause → Type 0
IsTermAnswer term shape table (Ok addition) = AddsTerm term shape table addition
IsTermAnswer term shape table (Err cause) = IsLarge term cause

pub record AnswersTerm (term : NamedTerm) (shape : WrittenShape) (result : Result (Result Addition Cause) Fault) (table : TermTable) : Type 0 where
  pub answered : IfOk result (IsTermAnswer term shape table)
  pub refused : IfErr result (λ fault. fault ≡ Memory)
