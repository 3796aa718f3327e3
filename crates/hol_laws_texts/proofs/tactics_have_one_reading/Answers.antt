use Rattle.hol_laws_texts.proofs.Parts.{quotes-unambiguous}
use Rattle.hol_laws_texts.proofs.tactics_have_one_reading.Goals as goal

pub returns : goal.returns
returns c = c.tactics_are_unambiguous.ensures quotes-unambiguous
