use Rattle.std.proofs.Common.{refl, ap, ◌∙◌}
use Rattle.hol_model.specs.Derived.Prelude.{stored_theorems}
use Rattle.hol_model_sessions.specs.Sessions.{State, with_theorems}
use Rattle.hol_script_session.proofs.session.Session.new.Goals as goal

pub store_all-requires-clause-table : goal.store_all-requires-clause-table
store_all-requires-clause-table c =
    ((refl, refl), ((refl, refl), ((refl, refl), ((refl, refl), ((refl, refl), ((refl, refl), ((refl, refl), ((refl, refl), ((refl, refl), ((refl, refl), ((refl, refl), ((refl, refl), tt))))))))))))

pub returns-clause-ok : goal.returns-clause-ok
returns-clause-ok c = c.in_ok-store_all.ensures.ok ∙ ap (λ (state : State). with_theorems state stored_theorems) c.in_ok-session.ensures.ok
