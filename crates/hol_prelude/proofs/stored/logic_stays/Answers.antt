use Rattle.hol_prelude.proofs.stored.logic_stays.Goals as goal
use Rattle.hol_prelude.proofs.StoredLemmas.{logic-stays}

pub returns : goal.returns
returns c = logic-stays
