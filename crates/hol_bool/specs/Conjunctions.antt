-- What makes a conjunction of two theorems.
use Rattle.std.specs.Prelude.{◌≡◌, List, ◌++◌, Result, IfOk}
use Rattle.hol_model.specs.declared.fault.Fault.{Fault}
use Rattle.hol_model.specs.Terms.HolType.{bool_type}
use Rattle.hol_model.specs.Terms.Nameless.{Nameless}
use Rattle.hol_model.specs.Logic.Logic as nameless
use Rattle.hol_model.specs.Logic.NamedLogic.{conjunction}
use Rattle.hol_model.specs.Logic.Derivable.{nameless_equation}
use Rattle.hol_model.specs.Kernel.Theorem.{Theorem}
use Rattle.hol_journal.specs.Journal.{Recorded}
use Rattle.hol_equal.specs.Room.{Room, FitsIf}
use Rattle.hol_equal.specs.Sequents.{Shows, DerivesIf}

-- the conjunction of the conclusions, and what is derived of sequents that the theorems show
abbrev pub Conjoins : Theorem → Theorem → Result Recorded Fault → Type 0
Conjoins first second result =
    (IfOk result (λ made. made.theorem.conclusion ≡ conjunction first.conclusion second.conclusion))
    × ((h k : List Nameless) (p q : Nameless) (room : Room) → Shows first h p → Shows second k q
    → FitsIf room (nameless_equation bool_type q (nameless.conjunction p q)) → DerivesIf room result (h ++ k) (nameless.conjunction p q))
