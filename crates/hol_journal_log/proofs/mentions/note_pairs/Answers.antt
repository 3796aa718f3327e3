use Rattle.std.proofs.Common.{arith}
use Rattle.hol_journal_log.proofs.MentionLemmas.{among_pair}
use Rattle.hol_journal_log.proofs.mentions.note_pairs.Goals as goal

pub loop-pair-preserved : goal.loop-pair-preserved
loop-pair-preserved c =
    among_pair c.args.pairs.now c.loop-pair.pair-index c.pair-item.result c.args.names.now c.loop-pair.names c.note_term_once.new.names c.note_term_once-in-loop-pair.new.names
    (omega arith) c.pair-item.is c.loop-pair.invariant c.in_ok-note_term_once.ensures.ok c.in_ok-note_term_once-2.ensures.ok
