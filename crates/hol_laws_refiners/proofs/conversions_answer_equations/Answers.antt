use Rattle.hol_laws_refiners.proofs.Equations.{conversions-answer-equations}
use Rattle.hol_laws_refiners.proofs.conversions_answer_equations.Goals as goal

pub returns : goal.returns
returns g c = conversions-answer-equations g.C.Converting.conversions
