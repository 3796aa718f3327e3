use Rattle.std.proofs.Common.{◌≡◌, ℕ, ◌+◌, ◌-◌, subst, arith}
use Rattle.hol_journal_log.specs.Marking.{IsMarkedFrom}
use Rattle.hol_journal_log.proofs.MarkingLemmas.{entry_at, one_further, IsSame-twice}
use Rattle.hol_journal_log.proofs.needed.mark_named.Goals as goal

pub name_stored-requires : goal.name_stored-requires
name_stored-requires c =
    let count = c.entries-count.result in
    let marked = c.loop-behind.invariant.0 (count - 1 - c.loop-behind.behind + 1) (omega (arith, c.entries-count.ensures)) in
    omega (arith, marked.one_each, c.entries-count.ensures)

pub loop-behind-preserved : goal.loop-behind-preserved
loop-behind-preserved c = (
  λ place sum.
      let entries = c.args.recorder.now.entries in
      let at = c.entries-count.result - 1 - c.loop-behind.behind in
      let same : at ≡ place = omega (arith, c.entries-count.ensures) in
      let marked = c.loop-behind.invariant.0 (at + 1) (omega (arith, c.entries-count.ensures)) in
      let here = entry_at entries at (omega (arith, c.entries-count.ensures)) in
      subst (λ (p : ℕ). IsMarkedFrom entries c.args.claimed.now p c.name_stored.new.marks.items c.name_stored.new.names) same
      (one_further entries c.args.claimed.now at here.0 c.loop-behind.marks.items c.loop-behind.names c.requires.earlier here.1 marked c.name_stored.new.marks.items c.name_stored.new.names
      (c.in_ok-name_stored.ensures.ok here.0 here.1)),
  IsSame-twice c.args.is_more.now c.loop-behind.is_more c.name_stored.new.is_more c.args.marks.now.items c.loop-behind.marks.items c.name_stored.new.marks.items
      c.loop-behind.invariant.1 c.in_ok-name_stored.ensures.same,
)
