use Rattle.std.proofs.lemmas.Result.{IfOk-weaker}
use Rattle.hol_check.specs.Reading.{read_whole}
use Rattle.hol_check.proofs.LogAnswerLemmas.{input_passed, memory_told}
use Rattle.hol_check.proofs.CheckingLemmas.{claims_listed}
use Rattle.hol_check.proofs.checker.check.Goals as goal

pub returns-in_err-log-clause-refused : goal.returns-in_err-log-clause-refused
returns-in_err-log-clause-refused g c = input_passed c.from_residual.result c.in_err-log.field-0.0 _ _ c.from_residual.ensures.1 c.in_err-log.ensures.refused

pub returns-clause-claims : goal.returns-clause-claims
returns-clause-claims g c = IfOk-weaker c.claims_of.result _ _ (λ claims listed. claims_listed _ _ _ _ c.in_ok-log.ensures.listed listed) c.claims_of.ensures.claims

pub returns-clause-refused : goal.returns-clause-refused
returns-clause-refused g c = memory_told c.claims_of.result _ _ c.claims_of.ensures.refused (read_whole c.in_ok-log.ensures.listed.has_claims.read)
