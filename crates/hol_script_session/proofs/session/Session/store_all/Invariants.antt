use Rattle.std.proofs.Common.{◌≡◌, drop}
use Rattle.hol_model.specs.Derived.Prelude.{stored_theorems}
use Rattle.hol_script_session.specs.SessionState.{state_of, lemmas_of, IsSession}
use Rattle.hol_script_session.proofs.BeginningLemmas.{IsStoringTo}
use Rattle.hol_script_session.proofs.session.Session.store_all.Given as goal

-- the theorems so far are stored
abbrev pub invariant-loop-at : goal.invariant-loop-at
invariant-loop-at l = record {
  storing : IsStoringTo (state_of l.fn.self) (state_of l.self) (drop l.at l.table) stored_theorems;
  session : IsSession l.self;
  lemmas : lemmas_of l.self ≡ lemmas_of l.fn.self;
}
