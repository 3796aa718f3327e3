use Rattle.hol_laws_steps.proofs.Splicing.{splices-valid}
use Rattle.hol_laws_steps.proofs.splices_valid.Goals as goal

pub returns : goal.returns
returns c = splices-valid
