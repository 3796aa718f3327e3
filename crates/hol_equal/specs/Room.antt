-- Room for the terms that are made on the way to a stated sequent.
use Rattle.std.specs.Prelude.{◌≡◌, ◌≤◌, ℕ, [], Bool, true, Result, Ok, Err}
use Rattle.hol_model.specs.declared.fault.Fault.{Fault}
use Rattle.hol_model.specs.Terms.NamedTerm.{NamedTerm}
use Rattle.hol_model.specs.Terms.Nameless.{Nameless}
use Rattle.hol_model.specs.Terms.Measures.{nameless_height, nameless_nodes, nameless_types_fit}
use Rattle.hol_equal.specs.Sequents.{IsPast}

-- whether there is room
abbrev pub Room : Type 0
Room = Bool

-- a term of at most this height and so many nodes, with types within the limit
pub record IsSized (tall many : ℕ) (term : Nameless) : Type 0 where
  pub height : nameless_height term ≤ tall
  pub nodes : nameless_nodes term ≤ many
  pub types : nameless_types_fit [] term ≡ true

-- a term that fits where there is room: derivations have some more to spare
abbrev pub FitsIf : Room → Nameless → Type 0
FitsIf room term = room ≡ true → IsSized 1900 900000 term

-- the term; or there is no memory, or what has to fit does not
abbrev pub MakesIf : Room → Result NamedTerm Fault → NamedTerm → Type 0
MakesIf room (Ok made) term = made ≡ term
MakesIf room (Err fault) term = IsPast fault room
