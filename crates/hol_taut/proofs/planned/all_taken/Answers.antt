use Rattle.std.proofs.Common.{◌∙◌}
use Rattle.hol_journal.proofs.GrowthLemmas.{journals-grow}
use Rattle.hol_taut_laws.proofs.LawLemmas.{laws-stay}
use Rattle.hol_taut.proofs.PlanLemmas.{one-more-taken}
use Rattle.hol_taut.proofs.planned.all_taken.Goals as goal

pub taken-requires-clause-laws : goal.taken-requires-clause-laws
taken-requires-clause-laws c = laws-stay c.args.recorder.now c.loop-step.recorder c.args.laws.now c.loop-step.invariant.grown c.requires.laws

pub returns-in_err-theorem-clause-grown : goal.returns-in_err-theorem-clause-grown
returns-in_err-theorem-clause-grown c = journals-grow.twice c.args.recorder.now c.loop-step.recorder c.taken.new.recorder c.loop-step.invariant.grown c.taken.ensures.continues.grown

pub returns-in_err-theorem-clause-theory : goal.returns-in_err-theorem-clause-theory
returns-in_err-theorem-clause-theory c = c.taken.ensures.continues.theory ∙ c.loop-step.invariant.theory

pub loop-step-preserved : goal.loop-step-preserved
loop-step-preserved c =
    one-more-taken c.args.recorder.now c.loop-step.recorder c.taken.new.recorder c.loop-step.made.items c.pushed.new.made.items c.in_ok-theorem.theorem
    c.loop-step.invariant c.in_ok-theorem.ensures.continues c.in_ok-pushed.ensures.ok
