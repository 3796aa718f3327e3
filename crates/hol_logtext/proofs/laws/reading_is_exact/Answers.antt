use Rattle.hol_logtext.proofs.LineLemmas.{reading_is_exact}
use Rattle.hol_logtext.proofs.laws.reading_is_exact.Goals as goal

pub returns : goal.returns
returns c = reading_is_exact
