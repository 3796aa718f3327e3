use Rattle.std.proofs.Common.{ℕ, List, [], Some, ap, refl, sym, ◌∙◌}
use Rattle.std.specs.Prelude.{cond}
use Rattle.std.specs.Str.{bytes_eq}
use Rattle.hol_model.specs.Terms.NamedTerm.{constant, equation}
use Rattle.hol_model.specs.Logic.Legality.{own_type}
use Rattle.hol_model_sessions.specs.Sessions.{definition_name}
use Rattle.hol_syntax.specs.Scope.{scope_of}
use Rattle.hol_theorem_store.specs.Store.{stored_of}
use Rattle.hol_script_session.specs.Answers.{IsLineOf}
use Rattle.hol_script_session.proofs.GrowthLemmas.{definition-line}
use Rattle.hol_script_session.proofs.session.Session.define.Goals as goal

pub returns-clause-ok : goal.returns-clause-ok
returns-clause-ok c =
    let answer = c.in_ok-theorem.theorem in
    let recorded = c.in_ok-theorem.ensures.recorded in
    let grow = c.journals_grow.ensures in
    let before = c.args.self.now.library.recorder in
    let after = c.define.new.self in
    let made : IsLineOf c.in-Some.line (scope_of c.args.self.now.scope) c.as_str.result.now
    (record { theory = []; hypotheses = []; conclusion = equation (constant c.args.name.now (own_type c.args.term.now)) c.args.term.now }) =
    rw c.in-Some.is at c.in_ok-line.ensures in
    record {
      answer = answer;
      outcome = c.in_ok-theorem.ensures.outcome;
      well_formed = rw c.thm.ensures at c.well_formed-2.ensures;
      theory = sym recorded.stands_on;
      made = grow.made before after _ answer recorded;
      grown = grow.grown before after _ answer recorded;
      scope = refl;
      kept = record { logic = refl; laws = refl };
      stored = record {
        theorems = λ other. c.put_made.ensures.stored.theorems other
            ∙ ap (λ (key : List ℕ). cond (bytes_eq key other) (Some answer) ((stored_of c.room.new.self).theorems other)) c.in_ok-key.ensures.ok
            ∙ ap (λ found. cond (bytes_eq (definition_name c.args.name.now) other) (Some answer) found) (c.room.ensures.kept.theorems other);
        lemmas = c.put_made.ensures.stored.lemmas ∙ c.room.ensures.kept.lemmas;
      };
      line_is = definition-line before.theory (scope_of c.args.self.now.scope) c.args.name.now c.as_str.result.now c.args.term.now answer.theorem c.in-Some.line
          c.in_ok-theorem.ensures.outcome (c.as_str.ensures.value ∙ c.in_ok-key.ensures.ok) made;
    }
