use Rattle.hol_laws_texts.proofs.Sequents.{written-true}
use Rattle.hol_laws_texts.proofs.written_theorems_are_true.Goals as goal

pub returns : goal.returns
returns c = written-true c.lines_that_begin_so_are_theorems.ensures c.sequents_are_unambiguous.ensures c.written_lines_are_told.ensures
