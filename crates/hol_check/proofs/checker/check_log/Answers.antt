use Rattle.std.proofs.Common.{◌≡◌, rules}
use Rattle.std.specs.Prelude.{IfErr}
use Rattle.hol_model.specs.declared.fault.Fault.TheVariants.{Memory}
use Rattle.hol_check.specs.Reading.{read_whole}
use Rattle.hol_check.proofs.LogAnswerLemmas.{input_passed, memory_told}
use Rattle.hol_check.proofs.checker.check_log.Goals as goal

pub returns-in_err-log-clause-refused : goal.returns-in_err-log-clause-refused
returns-in_err-log-clause-refused g c = input_passed c.from_residual.result c.in_err-log.field-0.0 _ _ c.from_residual.ensures.1 c.in_err-log.ensures.refused

pub returns-in_err-clone-clause-refused : goal.returns-in_err-clone-clause-refused
returns-in_err-clone-clause-refused g c =
    let is : IfErr c.from_residual-in_err-clone.result (λ fault. fault ≡ Memory) = search rules in
    memory_told c.from_residual-in_err-clone.result _ _ is (read_whole c.in_ok-log.ensures.listed.has_claims.read)

pub returns-in_err-entries-clause-refused : goal.returns-in_err-entries-clause-refused
returns-in_err-entries-clause-refused g c =
    let is : IfErr c.from_residual-in_err-entries.result (λ fault. fault ≡ Memory) = search rules in
    memory_told c.from_residual-in_err-entries.result _ _ is (read_whole c.in_ok-log.ensures.listed.has_claims.read)

pub returns-in_err-claims-clause-refused : goal.returns-in_err-claims-clause-refused
returns-in_err-claims-clause-refused g c =
    let is : IfErr c.from_residual-in_err-claims.result (λ fault. fault ≡ Memory) = search rules in
    memory_told c.from_residual-in_err-claims.result _ _ is (read_whole c.in_ok-log.ensures.listed.has_claims.read)
