use Rattle.std.proofs.Common.{◌∙◌, arith}
use Rattle.hol_journal_log.proofs.MarkingLemmas.{citing_begun}
use Rattle.hol_journal_log.proofs.needed.cited.Goals as goal

pub marks_of-requires : goal.marks_of-requires
marks_of-requires c = λ number member. let below = c.requires.within number member in omega (arith, c.entries.ensures, below)

pub mark_cited-requires-clause-begun : goal.mark_cited-requires-clause-begun
mark_cited-requires-clause-begun c =
    citing_begun c.args.recorder.now.entries c.args.claimed.now c.in_ok-marks.marks.items (c.in_ok-marks.ensures.count ∙ c.entries.ensures) c.in_ok-marks.ensures.set
