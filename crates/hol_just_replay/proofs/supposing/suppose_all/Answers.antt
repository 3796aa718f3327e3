use Rattle.std.proofs.Common.{map}
use Rattle.hol_model.specs.Terms.Nameless.{image}
use Rattle.hol_journal.proofs.GrowthLemmas.{journals-grow}
use Rattle.hol_just.specs.Steps.{goals_of}
use Rattle.hol_just_replay.proofs.SupposingLemmas.{known-next, supposes-next, supposes-all}
use Rattle.std.proofs.Common.{Err}
use Rattle.hol_just_replay.proofs.SupposingLemmas.{supposes-fits}
use Rattle.hol_just_replay.proofs.supposing.suppose_all.Goals as goal

pub supposed_from-requires-clause-logic : goal.supposed_from-requires-clause-logic
supposed_from-requires-clause-logic c = c.logic_stays.ensures c.args.recorder.now c.loop-goal.recorder c.args.logic.now c.loop-goal.invariant.grown c.requires.logic

pub supposed_from-requires-clause-premise : goal.supposed_from-requires-clause-premise
supposed_from-requires-clause-premise c = journals-grow.stays c.args.recorder.now c.loop-goal.recorder c.args.falsity.now c.loop-goal.invariant.grown c.requires.premise

pub supposed_from-requires-clause-known : goal.supposed_from-requires-clause-known
supposed_from-requires-clause-known c is =
    known-next c.args.recorder.now c.loop-goal.recorder (map image c.args.falsity.now.theorem.hypotheses) (goals_of c.args.goals.now) c.args.goals.now c.loop-goal.goal-index c.goal-item.result
    c.loop-goal.theorems.items c.loop-goal-test.true c.goal-item.is c.loop-goal.invariant (c.requires.known is)

pub returns-in-Err-clause-grown : goal.returns-in-Err-clause-grown
returns-in-Err-clause-grown c =
    journals-grow.twice c.args.recorder.now c.loop-goal.recorder c.supposed_from.new.recorder c.loop-goal.invariant.grown c.in-Err.ensures.continues.grown

pub loop-goal-preserved : goal.loop-goal-preserved
loop-goal-preserved c =
    supposes-next c.args.recorder.now c.loop-goal.recorder c.supposed_from.new.recorder (map image c.args.falsity.now.theorem.hypotheses)
    (goals_of c.args.goals.now) c.args.goals.now c.loop-goal.goal-index c.goal-item.result
    c.loop-goal.theorems.items c.pushed.new.theorems.items c.in-Ok.theorem c.loop-goal-test.true c.goal-item.is c.loop-goal.invariant
    c.in-Ok.ensures.continues.grown c.in-Ok.ensures.continues.theory c.in-Ok.ensures.continues.held.made c.in-Ok.ensures.drawn c.in_ok-pushed-in-Ok.ensures.ok

pub returns-clause-ok : goal.returns-clause-ok
returns-clause-ok c =
    supposes-all c.args.recorder.now c.loop-goal.recorder (map image c.args.falsity.now.theorem.hypotheses)
    (goals_of c.args.goals.now) c.args.goals.now c.loop-goal.goal-index c.loop-goal.theorems.items c.loop-goal-test.false c.loop-goal.invariant

pub returns-in-Err-clause-fits : goal.returns-in-Err-clause-fits
returns-in-Err-clause-fits c =
    supposes-fits c.args.recorder.now c.loop-goal.recorder (map image c.args.falsity.now.theorem.hypotheses) (goals_of c.args.goals.now) c.args.goals.now c.loop-goal.goal-index c.goal-item.result
    c.loop-goal.theorems.items c.args.falsity.now.theorem (Err c.refusal.result) c.loop-goal-test.true c.goal-item.is c.loop-goal.invariant
    (λ room. c.refusal.ensures.fits (c.in-Err.ensures.fits room))
