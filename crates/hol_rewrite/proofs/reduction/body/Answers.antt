use Rattle.hol_rewrite.proofs.Reducing.{body-is}
use Rattle.hol_rewrite.proofs.reduction.body.Goals as goal

pub returns-clause-reduced : goal.returns-clause-reduced
returns-clause-reduced c =
    body-is c.at_fresh_variable.new.recorder c.args.hypotheses.now c.args.theorem.now.theorem c.requires.form.0 c.in_ok-instance.instance c.requires.form.1 c.requires.same
    c.in_ok-instance.ensures.ok c.in_ok-instance.ensures.continues.held.made
