use Rattle.hol_syntax_print.proofs.TextsReadBack as laws
use Rattle.hol_syntax_print.proofs.laws.terms_read_back.Goals as goal

pub returns : goal.returns
returns c = laws.terms_read_back
