use Rattle.hol_script_manager.proofs.Managing.{begins, begun_manager}
use Rattle.hol_script_manager.proofs.manager.Manager.new.Goals as goal

pub returns-clause-ok : goal.returns-clause-ok
returns-clause-ok c = begins (record { prover = record { session = c.in_ok-session.session }; stack = c.new-2.result })
    c.in_ok-session.ensures.ok c.in_ok-session.ensures.lemmas c.new-2.ensures.empty

pub returns-clause-kept : goal.returns-clause-kept
returns-clause-kept c = begun_manager (record { prover = record { session = c.in_ok-session.session }; stack = c.new-2.result })
    c.in_ok-session.ensures.is_session c.in_ok-session.ensures.ok c.new-2.ensures.empty (c.new-2.ensures.made c.in_ok-session.session.library.recorder)
