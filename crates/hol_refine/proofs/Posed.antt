-- What is known of the target of a known goal, and of what a conversion proves of it.
use Rattle.std.proofs.Common.{◌≡◌, true}
use Rattle.hol_model.specs.Terms.HolType.{bool_type}
use Rattle.hol_model.specs.Logic.Theory.{Theory}
use Rattle.hol_model.specs.Logic.KnownTerm.{is_known}
use Rattle.hol_model.specs.Goals.Goals.{Goal}
use Rattle.hol_model.specs.Goals.Replays.{IsKnownGoal}
use Rattle.hol_model.proofs.Terms.NamedTests.{is_known-Decides}
use Rattle.hol_refine.proofs.KnownGoals.{target-typed}

pub target-known : (theory : Theory) (goal : Goal) → IsKnownGoal theory goal → is_known theory goal.target ≡ true
target-known theory goal known = (is_known-Decides theory goal.target bool_type (target-typed theory goal known)).1 known.target
