use Rattle.std.proofs.Common.{◌≡◌, rules}
use Rattle.std.specs.Prelude.{IfErr}
use Rattle.hol_model.specs.declared.fault.Fault.TheVariants.{Memory}
use Rattle.hol_check.specs.Reading.{read_whole}
use Rattle.hol_check.proofs.LogAnswerLemmas.{input_passed, memory_told, memory_unfailed}
use Rattle.hol_check.proofs.CheckingLemmas.{has_entries}
use Rattle.hol_check.proofs.checker.read_accepted.Goals as goal

pub returns-in_err-read_log-clause-refused : goal.returns-in_err-read_log-clause-refused
returns-in_err-read_log-clause-refused g c = input_passed c.from_residual.result c.in_err-read_log.field-0.0 _ _ c.from_residual.ensures.1 c.in_err-read_log.ensures.refused

pub returns-in_err-new-clause-refused : goal.returns-in_err-new-clause-refused
returns-in_err-new-clause-refused g c =
    let is : IfErr c.from_residual-in_err-new.result (λ fault. fault ≡ Memory) = search rules in
    memory_told c.from_residual-in_err-new.result _ _ is (read_whole c.in_ok-read_log.ensures.accepted.read)

pub returns-in_err-new-clause-failure : goal.returns-in_err-new-clause-failure
returns-in_err-new-clause-failure g c =
    let is : IfErr c.from_residual-in_err-new.result (λ fault. fault ≡ Memory) = search rules in
    memory_unfailed c.from_residual-in_err-new.result _ is c.in_ok-read_log.ensures.failure.unfailed

pub returns-clause-listed : goal.returns-clause-listed
returns-clause-listed g c =
    rw c.in_ok-new.ensures.ok
    (has_entries (g.R.Source.remaining c.args.reader.now) c.in_ok-read_log.field-0 c.accepted_logs_are_sound.ensures c.accepted_claims_hold.ensures c.in_ok-read_log.ensures.accepted)
