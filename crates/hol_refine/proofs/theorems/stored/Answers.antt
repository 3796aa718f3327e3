use Rattle.hol_model.specs.Goals.Justifications.{named}
use Rattle.hol_refine.proofs.theorems.stored.Goals as goal

pub returns : goal.returns
returns c = c.closed.ensures (named c.args.name.now) c.in_ok-just.ensures.tree
