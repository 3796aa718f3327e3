-- The exit status of a run.
use Rattle.std.specs.Prelude.{ℕ, Option, None, Some, ◌==◌, if◌then◌else◌}
use Rattle.hol_model.specs.declared.fault.Fault.{Fault}
use Rattle.hol_model.specs.declared.fault.Fault.TheVariants.{LogFault}

abbrev pub status_of_fault : Fault → ℕ
status_of_fault (LogFault line cause) = 3
status_of_fault _ = 2

-- by the number of refused commands, or by what ended the run
abbrev pub status_of : ℕ → Option Fault → ℕ
status_of refused None = if refused == 0 then 0 else 1
status_of refused (Some fault) = status_of_fault fault
