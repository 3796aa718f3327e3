-- Disjunctions by theorems of the prelude; what is made of one on the way to its cases, and the room for it.
use Rattle.std.specs.Prelude.{◌≡◌, ℕ, true, Result}
use Rattle.hol_model.specs.declared.fault.Fault.{Fault}
use Rattle.hol_model.specs.Terms.NamedTerm.{NamedTerm}
use Rattle.hol_model.specs.Terms.Nameless.{Nameless, image}
use Rattle.hol_model.specs.Logic.Theory.{Theory}
use Rattle.hol_model.specs.Logic.NamedLogic.{disjunction, implication}
use Rattle.hol_model.specs.Kernel.Theorem.{Theorem}
use Rattle.hol_model.specs.Derived.DerivedRules.{images}
use Rattle.hol_journal.specs.Journal.{Recorded}
use Rattle.hol_equal.specs.Room.{Room, IsSized}
use Rattle.hol_equal.specs.Sequents.{DerivesIf}
use Rattle.hol_bool.specs.PreludeInstances.{LeadsTo, at_p_q}

-- where the theorem of this number of the prelude leads from a theorem to the disjunction of two formulas, the disjunction
abbrev pub MakesDisjunction : Theory → ℕ → NamedTerm → NamedTerm → Theorem → Result Recorded Fault → Type 0
MakesDisjunction theory number p q premise result =
    (room : Room) → LeadsTo theory number (at_p_q p q) room (image premise.conclusion) (image (disjunction p q)) → DerivesIf room result (images premise) (image (disjunction p q))

-- (q ==> r) ==> r
abbrev pub other_case : NamedTerm → NamedTerm → NamedTerm
other_case q r = implication (implication q r) r

-- (p ==> r) ==> (q ==> r) ==> r
abbrev pub both_cases : NamedTerm → NamedTerm → NamedTerm → NamedTerm
both_cases p q r = implication (implication p r) (other_case q r)

-- a term that leaves room where there is room
abbrev pub LeavesRoomIf : Room → Nameless → Type 0
LeavesRoomIf room term = room ≡ true → IsSized 1000 5000 term
