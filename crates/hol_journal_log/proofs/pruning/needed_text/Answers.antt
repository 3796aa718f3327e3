use Rattle.std.proofs.Common.{List, ℕ, subst}
use Rattle.hol_journal_log.specs.Claims.{claims_of}
use Rattle.hol_journal_log.specs.Needed.{MarksNeeded}
use Rattle.hol_journal_log.proofs.LogTextLemmas.{text_named, text_past}
use Rattle.hol_journal_log.proofs.pruning.needed_text.Goals as goal

pub returns-clause-ok : goal.returns-clause-ok
returns-clause-ok c =
    let marks = c.write_needed.new.marks.items in
    let needed = subst (λ (claimed : List ℕ). MarksNeeded c.args.recorder.now.entries claimed marks) c.requires.claimed c.in_ok-write_needed.ensures.needed in
    text_named c.args.recorder.now (claims_of c.args.claims.now) marks needed c.text_written.result
    (rw c.deref.ensures.value at c.text_written.ensures.ok) (rw c.deref.ensures.value at c.text_written.ensures.named)

pub returns-clause-too_long : goal.returns-clause-too_long
returns-clause-too_long c = λ past.
    let marks = c.write_needed.new.marks.items in
    let needed = subst (λ (claimed : List ℕ). MarksNeeded c.args.recorder.now.entries claimed marks) c.requires.claimed c.in_ok-write_needed.ensures.needed in
    text_past c.args.recorder.now (claims_of c.args.claims.now) marks needed (rw c.deref.ensures.value at c.text_written.ensures.too_long past)
