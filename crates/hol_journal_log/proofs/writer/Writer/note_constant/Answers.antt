use Rattle.hol_journal_log.specs.Writer.{line_of_term}
use Rattle.hol_journal_log.proofs.NamesLemmas.{noted_at, none_under}
use Rattle.hol_journal_log.proofs.writer.Writer.note_constant.Goals as goal

pub returns-in-Some-clause-ok : goal.returns-in-Some-clause-ok
returns-in-Some-clause-ok c = λ line there.
    noted_at line_of_term c.args.self.now.terms.keys c.in-Some.line.now c.args.at line c.note_name.result c.args.names.now c.note_name.new.names c.in-Some.ensures.key there c.note_name.ensures.ok

pub returns-in-None-clause-ok : goal.returns-in-None-clause-ok
returns-in-None-clause-ok c = λ line there. absurd (none_under line_of_term c.args.self.now.terms.keys c.args.at line there c.in-None.ensures.key)
