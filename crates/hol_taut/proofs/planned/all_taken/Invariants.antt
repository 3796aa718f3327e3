use Rattle.hol_taut.proofs.PlanLemmas.{IsTaking}
use Rattle.hol_taut.proofs.planned.all_taken.Given as goal

abbrev pub invariant-loop-step : goal.invariant-loop-step
invariant-loop-step l = IsTaking l.fn.recorder l.recorder l.made.items
