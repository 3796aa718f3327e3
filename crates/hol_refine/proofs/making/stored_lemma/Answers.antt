use Rattle.hol_model.specs.Goals.Justifications.{lemma}
use Rattle.hol_refine.proofs.Depths.{made}
use Rattle.hol_refine.proofs.making.stored_lemma.Goals as goal

pub returns : goal.returns
returns c = made (lemma c.args.number) c.lemma.result c.lemma.ensures.tree c.lemma.ensures.err
