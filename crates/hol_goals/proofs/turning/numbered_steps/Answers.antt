use Rattle.hol_goals.proofs.NumberedSteps.{one-number}
use Rattle.hol_goals.proofs.turning.numbered_steps.Goals as goal

pub loop-number-preserved : goal.loop-number-preserved
loop-number-preserved c =
    one-number c.args.first c.loop-number.number c.loop-number.steps.items c.push.new.self.items c.in_ok-numbered.field-0
    c.loop-number.auto.number c.loop-number.invariant c.in_ok-numbered.ensures.ok c.in_ok-push.ensures.items
