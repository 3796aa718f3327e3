-- Theorems whose hypotheses are among those that are allowed.
use Rattle.std.specs.Prelude.{◌≡◌, List, Result, Ok, Err}
use Rattle.hol_model.specs.declared.fault.Fault.{Fault}
use Rattle.hol_model.specs.Terms.Nameless.{Nameless, image}
use Rattle.hol_model.specs.Logic.Derivable.{IsMember}
use Rattle.hol_model.specs.Kernel.Theorem.{Theorem}
use Rattle.hol_model.specs.Derived.DerivedRules.{images}
use Rattle.hol_journal.specs.Journal.{Recorded}
use Rattle.hol_equal.specs.Room.{Room}
use Rattle.hol_equal.specs.Sequents.{IsPast}

-- each hypothesis of the theorem is allowed, and its conclusion is this term
pub record Proves (theorem : Theorem) (allowed : List Nameless) (conclusion : Nameless) : Type 0 where
  pub within : (term : Nameless) → IsMember term (images theorem) → IsMember term allowed
  pub concludes : image theorem.conclusion ≡ conclusion

-- such a theorem; or there is no memory, or what has to fit does not
abbrev pub ProvesIf : Room → Result Recorded Fault → List Nameless → Nameless → Type 0
ProvesIf room (Ok made) allowed conclusion = Proves made.theorem allowed conclusion
ProvesIf room (Err fault) allowed conclusion = IsPast fault room
