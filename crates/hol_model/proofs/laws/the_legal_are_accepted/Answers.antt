use Rattle.hol_model.proofs.Kernel.Acceptance.{accepts_the_legal}
use Rattle.hol_model.proofs.laws.the_legal_are_accepted.Goals as goal

pub returns : goal.returns
returns c = accepts_the_legal
