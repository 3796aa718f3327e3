use Rattle.hol_model.specs.Goals.Justifications.{by_rule, no_parts}
use Rattle.hol_refine.proofs.making.by_itself.Goals as goal

pub returns : goal.returns
returns c = c.closed.ensures (by_rule c.args.rule no_parts) c.in_ok-just.ensures
