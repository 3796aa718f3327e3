use Rattle.hol_syntax_print.proofs.SequentTexts as laws
use Rattle.hol_syntax_print.proofs.laws.sequents_read_back.Goals as goal

pub returns : goal.returns
returns c = laws.sequents_read_back
