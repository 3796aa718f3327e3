use Rattle.hol_bool.proofs.Passing.{unchanged}
use Rattle.hol_bool.proofs.negation_rules.contr.Goals as goal

pub contr_known-requires-clause-formula : goal.contr_known-requires-clause-formula
contr_known-requires-clause-formula c = c.in_ok-pass_formula.ensures.ok.formula

pub returns-in_err-pass_formula-clause-continues : goal.returns-in_err-pass_formula-clause-continues
returns-in_err-pass_formula-clause-continues c = unchanged c.args.recorder.now c.from_residual.result c.from_residual.ensures.0
