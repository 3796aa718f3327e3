use Rattle.hol_laws_texts.proofs.Parts.{parts-unambiguous}
use Rattle.hol_laws_texts.proofs.commands_have_one_reading.Goals as goal

pub returns : goal.returns
returns c = c.commands_are_unambiguous.ensures parts-unambiguous
