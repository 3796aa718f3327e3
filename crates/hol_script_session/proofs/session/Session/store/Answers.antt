use Rattle.std.proofs.Common.{ℕ, List, Some, ap, ◌∙◌}
use Rattle.std.specs.Prelude.{cond}
use Rattle.std.specs.Str.{bytes_eq}
use Rattle.hol_theorem_store.specs.Stored.{StoresTheorem}
use Rattle.hol_theorem_store.specs.Store.{stored_of}
use Rattle.hol_syntax.specs.Scope.{scope_of}
use Rattle.hol_script_session.proofs.GrowthLemmas.{same_lemmas, kept_store, stored_session}
use Rattle.hol_script_session.proofs.RecordingLemmas.{stored_theorem}
use Rattle.hol_script_session.proofs.session.Session.store.Goals as goal

pub returns-in_err-room-clause-kept : goal.returns-in_err-room-clause-kept
returns-in_err-room-clause-kept c = kept_store c.args.self.now c.room.new.self c.requires.session c.room.ensures.kept

pub returns-clause-kept : goal.returns-clause-kept
returns-clause-kept c =
    let old = stored_of c.args.self.now.library.store in
    let new = stored_of c.put_made.new.self in
    let stores : StoresTheorem old new c.args.name.now c.args.theorem = record {
      theorems = λ other. c.put_made.ensures.stored.theorems other
          ∙ ap (λ (key : List ℕ). cond (bytes_eq key other) (Some c.args.theorem) ((stored_of c.room.new.self).theorems other)) c.in_ok-key.ensures.ok
          ∙ ap (λ found. cond (bytes_eq c.args.name.now other) (Some c.args.theorem) found) (c.room.ensures.kept.theorems other);
      lemmas = c.put_made.ensures.stored.lemmas ∙ c.room.ensures.kept.lemmas;
    } in
    stored_session c.args.self.now c.put_made.new.self c.args.name.now c.args.theorem c.requires.session c.requires.made (rw c.thm.ensures at c.well_formed-2.ensures) stores

pub returns-clause-ok : goal.returns-clause-ok
returns-clause-ok c =
    let old = stored_of c.args.self.now.library.store in
    let new = stored_of c.put_made.new.self in
    let stores : StoresTheorem old new c.args.name.now c.args.theorem = record {
      theorems = λ other. c.put_made.ensures.stored.theorems other
          ∙ ap (λ (key : List ℕ). cond (bytes_eq key other) (Some c.args.theorem) ((stored_of c.room.new.self).theorems other)) c.in_ok-key.ensures.ok
          ∙ ap (λ found. cond (bytes_eq c.args.name.now other) (Some c.args.theorem) found) (c.room.ensures.kept.theorems other);
      lemmas = c.put_made.ensures.stored.lemmas ∙ c.room.ensures.kept.lemmas;
    } in
    λ i. record {
      theory = c.args.self.now.library.recorder.theory;
      variables = (scope_of c.args.self.now.scope).variable_type;
      theorems = λ other. stored_theorem c.args.theorem c.args.name.now old new stores other i;
    }

pub returns-clause-lemmas : goal.returns-clause-lemmas
returns-clause-lemmas c = same_lemmas c.args.self.now
    (record c.args.self.now { library = record c.args.self.now.library { store = c.put_made.new.self } })
    (c.put_made.ensures.stored.lemmas ∙ c.room.ensures.kept.lemmas)
