use Rattle.hol_check.proofs.LogAnswerLemmas.{input_passed}
use Rattle.hol_check.proofs.migrating.migrate.Goals as goal

pub returns-in_err-claims-clause-refused : goal.returns-in_err-claims-clause-refused
returns-in_err-claims-clause-refused g c = input_passed c.from_residual.result c.in_err-claims.field-0.0 _ _ c.from_residual.ensures.1 c.in_err-claims.ensures.refused
