use Rattle.hol_model.specs.Refining.Refiners.{from_first}
use Rattle.hol_refine.proofs.rows.all_tac.Goals as goal

pub returns : goal.returns
returns c store fresh = c.to_target.ensures from_first c.in_ok-just.ensures
