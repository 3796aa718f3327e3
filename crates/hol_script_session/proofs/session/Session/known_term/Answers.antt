use Rattle.std.proofs.Common.{sym}
use Rattle.hol_script_session.proofs.ReadLemmas.{read_passes}
use Rattle.hol_script_session.proofs.session.Session.known_term.Goals as goal

pub returns-in-Some-clause-reads : goal.returns-in-Some-clause-reads
returns-in-Some-clause-reads c = λ tree same.
    absurd (read_passes c.args.self.now tree c.in_ok-term.term c.in-Some.fault c.requires (c.in_ok-term.ensures tree same) (sym (rw c.theory.ensures at c.in-Some.ensures)))
