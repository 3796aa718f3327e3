use Rattle.std.proofs.Common.{drop, ◌+◌, ◌∙◌}
use Rattle.hol_model.specs.Derived.Prelude.{stored_theorems}
use Rattle.hol_script_session.specs.SessionState.{state_of}
use Rattle.hol_script_session.proofs.BeginningLemmas.{storing-next, storing-further, next-number}
use Rattle.hol_script_session.proofs.session.Session.store_all.Goals as goal

pub store_numbered-requires-clause-number : goal.store_numbered-requires-clause-number
store_numbered-requires-clause-number c =
    next-number (state_of c.args.self.now) (state_of c.loop-at.self) c.args.table.now c.loop-at.at _ stored_theorems c.loop-at-test.true c.loop-at.invariant.storing

pub loop-at-preserved : goal.loop-at-preserved
loop-at-preserved c = record {
  storing =
      storing-further (state_of c.args.self.now) (state_of c.loop-at.self) (state_of c.store_numbered.new.self) _ (drop (c.loop-at.at + 1) c.args.table.now) stored_theorems
      (storing-next (state_of c.args.self.now) (state_of c.loop-at.self) c.args.table.now c.loop-at.at _ stored_theorems c.loop-at-test.true c.loop-at.invariant.storing)
      c.in_ok-store_numbered.ensures.ok;
  session = c.in_ok-store_numbered.ensures.kept;
  lemmas = c.in_ok-store_numbered.ensures.lemmas ∙ c.loop-at.invariant.lemmas;
}
