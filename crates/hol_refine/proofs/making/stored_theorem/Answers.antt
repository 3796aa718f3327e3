use Rattle.hol_model.specs.Goals.Justifications.{named}
use Rattle.hol_refine.proofs.Depths.{made}
use Rattle.hol_refine.proofs.making.stored_theorem.Goals as goal

pub returns : goal.returns
returns c = made (named c.args.name.now) c.named.result c.named.ensures.tree c.named.ensures.err
