use Rattle.std.proofs.Common.{◌≡◌, ℕ, ◌+◌, ◌-◌, subst, arith}
use Rattle.hol_journal_log.specs.Marking.{AreCitedFrom}
use Rattle.hol_journal_log.proofs.MarkingLemmas.{entry_at, cited_further}
use Rattle.hol_journal_log.proofs.needed.mark_cited.Goals as goal

pub cite_stored-requires-clause-place : goal.cite_stored-requires-clause-place
cite_stored-requires-clause-place c =
    let count = c.entries-count.result in
    let cited = c.loop-behind.invariant (count - 1 - c.loop-behind.behind + 1) (omega (arith, c.entries-count.ensures)) in
    omega (arith, cited.one_each, c.entries-count.ensures)

pub loop-behind-preserved : goal.loop-behind-preserved
loop-behind-preserved c = λ place sum.
    let entries = c.args.recorder.now.entries in
    let at = c.entries-count.result - 1 - c.loop-behind.behind in
    let same : at ≡ place = omega (arith, c.entries-count.ensures) in
    let cited = c.loop-behind.invariant (at + 1) (omega (arith, c.entries-count.ensures)) in
    let here = entry_at entries at (omega (arith, c.entries-count.ensures)) in
    subst (λ (p : ℕ). AreCitedFrom entries c.args.claimed.now p c.cite_stored.new.marks.items) same
    (cited_further entries c.args.claimed.now at here.0 c.loop-behind.marks.items c.cite_stored.new.marks.items c.requires.earlier here.1 cited
    (c.in_ok-cite_stored.ensures.ok here.0 here.1))
