-- What a call leaves behind that answers no value.
use Rattle.std.specs.Prelude.{Result, Ok, Err}
use Rattle.hol_model.specs.declared.fault.Fault.{Fault}

-- the value that is there after the call, or the call's refusal
abbrev pub leaving : {A : Type 0} → Result (Unit {0}) Fault → A → Result A Fault
leaving (Ok _) value = Ok value
leaving (Err fault) value = Err fault
