use Rattle.std.specs.Prelude.{◌+◌, ◌*◌}
use Rattle.hol_terms.specs.Term.{weight}
use Rattle.hol_journal_log.proofs.writer.Writer.+term_number.Given as goal

abbrev pub decreases-term_number : goal.decreases-term_number
decreases-term_number l = 2 * weight l.term.now + 1

abbrev pub decreases-number_by_parts : goal.decreases-number_by_parts
decreases-number_by_parts l = 2 * weight l.term.now
