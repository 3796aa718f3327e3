-- Which variables may be free in a term.
use Rattle.std.specs.Prelude.{◌≤◌, ℕ}
use Rattle.hol_check_written.specs.declared.variables.Variables.{Variables}

-- the variable of this number is among them
pub record IsAmong (variables : Variables) (number : ℕ) : Type 0 where
  pub from : variables.least ≤ number
  pub to : number ≤ variables.greatest
