use Rattle.hol_syntax.proofs.UniqueSequents as laws
use Rattle.hol_syntax.proofs.sequents.sequents_are_unambiguous.Goals as goal

pub returns : goal.returns
returns c = laws.sequents_are_unambiguous
