use Rattle.std.proofs.Common.{refl, map, string_bytes, ◌∙◌}
use Rattle.hol_prelude_derivations.specs.Derivations.{theorems}
use Rattle.hol_host.specs.Host.{host_of}
use Rattle.hol_journal.specs.Journal.{theorem_in}
use Rattle.hol_just.specs.Steps.{goal_of}
use Rattle.hol_refine.specs.TableAnswers.{step_in}
use Rattle.hol_theorem_library.specs.Library.{store_in}
use Rattle.hol_model.specs.Refining.Conversions.{top_depth_conv, rules_conv}
use Rattle.hol_model.specs.Refining.Refiners as refiners
use Rattle.hol_laws_refiners.proofs.Equations.{conversions-answer-equations}
use Rattle.hol_refine.proofs.Extending.{store-same}
use Rattle.hol_refine.proofs.NamedEquations.{named-are-equations}
use Rattle.hol_refine.proofs.Posed.{target-known}
use Rattle.hol_refine.proofs.SpentSteps.{converts-before}
use Rattle.hol_refine.proofs.Running.{by-conversion, not-converted, not-begun}
use Rattle.hol_equal.proofs.StepLemmas.{passed_on}
use Rattle.hol_refine.proofs.conversions.rewrite_tac.Goals as goal

pub rewrite-requires-clause-known : goal.rewrite-requires-clause-known
rewrite-requires-clause-known g c = rw c.in_ok-rules.ensures.continued.theory (target-known c.args.library.now.recorder.theory (goal_of c.args.goal.now) c.requires.known)

pub rewrite-requires-clause-equations : goal.rewrite-requires-clause-equations
rewrite-requires-clause-equations g c =
    rw c.deref.ensures.value (named-are-equations (store_in c.args.library.now) (map string_bytes c.args.names.now) (theorems c.in_ok-rules.rules.items) c.in_ok-rules.ensures.ok)

pub by_equation-requires-clause-equation : goal.by_equation-requires-clause-equation
by_equation-requires-clause-equation g c =
    conversions-answer-equations (g.H.Converters.conversions c.args.hosts.now) c.rules_named.new.library.recorder.theory
    (store_in c.rules_named.new.library) 0 c.args.fuel.now.left c.rewrite.new.fuel.left
    (top_depth_conv (rules_conv (theorems c.deref.result.now))) c.args.goal.now.concl c.in_ok-theorem.theorem.theorem c.in_ok-theorem.ensures.outcome

pub returns-in_err-rules-clause-outcome : goal.returns-in_err-rules-clause-outcome
returns-in_err-rules-clause-outcome g c =
    rw (passed_on c.from_residual.result c.in_err-rules.field-0.0 c.from_residual.ensures.1)
    (not-begun c.args.library.now.recorder.theory (host_of (g.H.Refiners.refiners c.args.hosts.now) (g.H.Converters.conversions c.args.hosts.now))
    (store_in c.args.library.now) (store_in c.rules_named.new.library) c.args.fuel.now.left (refiners.rewrite_tac (map string_bytes c.args.names.now)) (goal_of c.args.goal.now) c.in_err-rules.field-0.0
    c.in_err-rules.ensures.err (store-same _ _ c.in_err-rules.ensures.continued))

pub returns-clause-outcome : goal.returns-clause-outcome
returns-clause-outcome g c =
    let begun = c.in_ok-rules.ensures.continued in
    let done = c.in_ok-theorem.ensures.continued in
    let rules = c.in_ok-rules.ensures.ok in
    let run = converts-before c.args.library.now.recorder.theory c.rules_named.new.library.recorder.theory (store_in c.args.library.now) (store_in c.rules_named.new.library)
    (g.H.Converters.conversions c.args.hosts.now) c.args.fuel.now.left c.rewrite.new.fuel.left (top_depth_conv (rules_conv (theorems c.deref.result.now))) c.args.goal.now.concl
    (theorem_in c.rewrite.result) begun.theory (store-same _ _ begun) c.rewrite.ensures.outcome in
    by-conversion c.args.library.now.recorder.theory (host_of (g.H.Refiners.refiners c.args.hosts.now) (g.H.Converters.conversions c.args.hosts.now))
    (store_in c.args.library.now) (store_in c.rewrite.new.library) (store_in c.by_equation.new.library) c.rewrite.new.library.recorder.theory c.args.fuel.now.left c.rewrite.new.fuel.left
    (refiners.rewrite_tac (map string_bytes c.args.names.now)) (goal_of c.args.goal.now) (top_depth_conv (rules_conv (theorems c.in_ok-rules.rules.items))) c.in_ok-theorem.theorem.theorem
    (step_in c.by_equation.result)
    (rules.found, theorems c.in_ok-rules.rules.items, rules.named, rules.are_rules, refl) (rw (c.deref.ensures.value, c.in_ok-theorem.was) at run)
    (store-same _ _ done ∙ store-same _ _ begun) (done.theory ∙ begun.theory) c.by_equation.ensures.outcome

pub returns-in_err-theorem-clause-outcome : goal.returns-in_err-theorem-clause-outcome
returns-in_err-theorem-clause-outcome g c =
    let begun = c.in_ok-rules.ensures.continued in
    let done = c.in_err-theorem.ensures.continued in
    let rules = c.in_ok-rules.ensures.ok in
    let run = converts-before c.args.library.now.recorder.theory c.rules_named.new.library.recorder.theory (store_in c.args.library.now) (store_in c.rules_named.new.library)
    (g.H.Converters.conversions c.args.hosts.now) c.args.fuel.now.left c.rewrite.new.fuel.left (top_depth_conv (rules_conv (theorems c.deref.result.now))) c.args.goal.now.concl
    (theorem_in c.rewrite.result) begun.theory (store-same _ _ begun) c.rewrite.ensures.outcome in
    rw (passed_on c.from_residual-in_err-theorem.result c.in_err-theorem.field-0.0 c.from_residual-in_err-theorem.ensures.1)
    (not-converted c.args.library.now.recorder.theory (host_of (g.H.Refiners.refiners c.args.hosts.now) (g.H.Converters.conversions c.args.hosts.now))
    (store_in c.args.library.now) (store_in c.rewrite.new.library) c.args.fuel.now.left c.rewrite.new.fuel.left
    (refiners.rewrite_tac (map string_bytes c.args.names.now)) (goal_of c.args.goal.now) (top_depth_conv (rules_conv (theorems c.in_ok-rules.rules.items))) c.in_err-theorem.field-0.0
    (rules.found, theorems c.in_ok-rules.rules.items, rules.named, rules.are_rules, refl) (rw (c.deref.ensures.value, c.in_err-theorem.was) at run)
    (store-same _ _ done ∙ store-same _ _ begun))
