use Rattle.std.proofs.Common.{◌≡◌, Some, None, Option, subst, List, ℕ}
use Rattle.std.specs.Option.{option_map}
use Rattle.hol_model.specs.Terms.NamedTerm.{NamedTerm, variable}
use Rattle.hol_model.specs.Texts.Reading.{bare_constant, bound_type}
use Rattle.hol_model.specs.Kernel.Outcome.{Answers}
use Rattle.hol_syntax.specs.Scope.{scope_of}
use Rattle.hol_syntax.proofs.Bindings.{bare_found, bare_free}
use Rattle.hol_syntax.proofs.builder.bare.Goals as goal

pub returns-in-Some-find : goal.returns-in-Some-find
returns-in-Some-find c = λ bindings h.
    let P : List ℕ → Type 0 = λ n. ◌≡◌ {A = Option NamedTerm} (Some c.in-Some-find.binder.now) (option_map (variable n) (bound_type bindings n)) in
    bare_found (scope_of c.args.scope.now) (bound_type bindings c.args.bytes.now) c.args.bytes.now c.in-Some-find.binder.now c.copy.result
    (subst P c.in-Some.ensures.0 (c.in-Some-find.ensures bindings h)) c.in-Some.ensures.1 c.copy.ensures.ok c.copy.ensures.err

pub returns-in-None : goal.returns-in-None
returns-in-None c = λ bindings h.
    let P : List ℕ → Type 0 = λ n. Answers c.known_name.result (bare_constant (scope_of c.args.scope.now) ((scope_of c.args.scope.now).generic_type n) n) in
    let Q : List ℕ → Type 0 = λ n. ◌≡◌ {A = Option NamedTerm} None (option_map (variable n) (bound_type bindings n)) in
    bare_free (scope_of c.args.scope.now) (bound_type bindings c.args.bytes.now) c.args.bytes.now c.known_name.result
    (subst Q c.in-Some.ensures.0 (c.in-None.ensures bindings h)) c.in-Some.ensures.1 (subst P c.in-Some.ensures.0 c.known_name.ensures)
