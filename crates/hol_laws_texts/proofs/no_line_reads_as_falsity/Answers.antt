use Rattle.hol_laws_texts.proofs.Sequents.{no_line-falsity}
use Rattle.hol_laws_texts.proofs.no_line_reads_as_falsity.Goals as goal

pub returns : goal.returns
returns c = no_line-falsity c.lines_that_begin_so_are_theorems.ensures c.sequents_are_unambiguous.ensures c.no_line_is_falsity.ensures
