use Rattle.hol_laws_refiners.proofs.Lemmas.{refiners-answer-valid}
use Rattle.hol_laws_refiners.proofs.refiners_answer_valid.Goals as goal

pub returns : goal.returns
returns g c = refiners-answer-valid g.R.Refining.host
