use Rattle.hol_laws_steps.proofs.Splicing.{splice-has-sequent}
use Rattle.hol_laws_steps.proofs.splice_has_sequent.Goals as goal

pub returns : goal.returns
returns c = splice-has-sequent
