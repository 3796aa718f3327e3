use Rattle.hol_journal.proofs.GrowthLemmas.{journals-grow}
use Rattle.hol_journal.proofs.laws.journals_grow.Goals as goal

pub returns : goal.returns
returns c = journals-grow
