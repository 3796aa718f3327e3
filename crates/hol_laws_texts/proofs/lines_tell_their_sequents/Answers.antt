use Rattle.hol_laws_texts.proofs.Sequents.{lines-tell}
use Rattle.hol_laws_texts.proofs.lines_tell_their_sequents.Goals as goal

pub returns : goal.returns
returns c = lines-tell c.lines_that_begin_so_are_theorems.ensures c.sequents_are_unambiguous.ensures
