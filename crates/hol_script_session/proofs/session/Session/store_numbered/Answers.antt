use Rattle.hol_script_session.specs.SessionState.{state_of}
use Rattle.hol_script_session.proofs.BeginningLemmas.{numbered-stored}
use Rattle.hol_script_session.proofs.session.Session.store_numbered.Goals as goal

pub returns-clause-ok : goal.returns-clause-ok
returns-clause-ok c =
    numbered-stored c.store.result (state_of c.args.self.now) (state_of c.store.new.self) c.args.name.now c.args.number c.in_ok-theorem.theorem c.theorem_of.result.now
    c.in_ok-theorem.ensures.ok c.theorem_of.ensures.theorem c.store.ensures.ok
