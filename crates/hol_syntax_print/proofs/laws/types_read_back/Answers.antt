use Rattle.hol_syntax_print.proofs.TextsReadBack as laws
use Rattle.hol_syntax_print.proofs.laws.types_read_back.Goals as goal

pub returns : goal.returns
returns c = laws.types_read_back
