use Rattle.std.proofs.Common.{◌≡◌, [], OnOk, subst}
use Rattle.hol_model.specs.Logs.LogLine.LogLine.{claim_line}
use Rattle.hol_journal_log.specs.Writer.{written}
use Rattle.hol_journal_log.proofs.StepLineLemmas.{nothing_before, claim_answers}
use Rattle.hol_journal_log.specs.LogWriting.{Claimed, Written, number_of_entry, with_line}
use Rattle.hol_journal_log.specs.Writing.{AreTermsWritten}
use Rattle.hol_journal_log.proofs.writer.Writer.write_claim.Goals as goal

pub returns-clause-ok : goal.returns-clause-ok
returns-clause-ok c =
    let claim : Claimed = record { name = c.args.name.now; made = record { theorem = c.args.theorem.now; entry = c.args.entry } } in
    let one = written c.term_number.new.self in
    let begun : AreTermsWritten one one [] c.new-hypotheses.result.items = rw c.new-hypotheses.ensures.items (nothing_before one) in
    let are : AreTermsWritten one (written c.term_numbers.new.self) c.hyps.result.now c.term_numbers.new.numbers.items = c.in_ok-term_numbers.ensures.ok one [] begun in
    let kept = c.in_ok-keep_hypotheses.ensures.ok in
    let numbered = subst (λ (w : Written). c.in_ok-theorem.theorem ≡ number_of_entry w c.args.entry) kept c.in_ok-theorem.ensures.ok in
    let line = claim_line c.args.name.now c.in_ok-theorem.theorem c.in_ok-conclusion.conclusion c.term_numbers.new.numbers.items in
    let put = subst (λ (w : Written). OnOk c.put_line.result (written c.put_line.new.self ≡ with_line line w)) kept c.put_line.ensures.ok in
    claim_answers c.put_line.result (written c.args.self.now) one (written c.term_numbers.new.self)
    (written c.put_line.new.self) claim c.in_ok-theorem.theorem c.in_ok-conclusion.conclusion c.term_numbers.new.numbers.items
    (rw (c.take_hypotheses-known.ensures, c.concl.ensures.value) at c.in_ok-conclusion.ensures.ok) (rw c.hyps.ensures.value at are) numbered put
