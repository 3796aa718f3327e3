use Rattle.hol_rewrite.proofs.Joining.{denied-has}
use Rattle.hol_rewrite.proofs.Reducing.{only-rule}
use Rattle.hol_rewrite.proofs.reduction.falsity.Goals as goal

pub returns-clause-reduced : goal.returns-clause-reduced
returns-clause-reduced c hypotheses same =
    let premise = c.args.theorem.now.theorem in
    let rule = c.in_ok-rule.rule in
    only-rule c.denied.new.recorder hypotheses premise rule c.in_ok-rule.ensures.continues.held.made (denied-has hypotheses premise rule.theorem c.args.part.now c.requires.form c.in_ok-rule.ensures.ok same)
