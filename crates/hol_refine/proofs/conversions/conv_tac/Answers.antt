use Rattle.std.proofs.Common.{refl}
use Rattle.hol_tactic_exprs.specs.Expressions.{conversion_of}
use Rattle.hol_host.specs.Host.{host_of}
use Rattle.hol_just.specs.Steps.{goal_of}
use Rattle.hol_refine.specs.TableAnswers.{step_in}
use Rattle.hol_theorem_library.specs.Library.{store_in}
use Rattle.hol_model.specs.Refining.Refiners as refiners
use Rattle.hol_laws_refiners.proofs.Equations.{conversions-answer-equations}
use Rattle.hol_equal.proofs.StepLemmas.{passed_on}
use Rattle.hol_refine.proofs.Extending.{store-same}
use Rattle.hol_refine.proofs.Posed.{target-known}
use Rattle.hol_refine.proofs.Running.{by-conversion, not-converted}
use Rattle.hol_refine.proofs.conversions.conv_tac.Goals as goal

pub apply-requires-clause-known : goal.apply-requires-clause-known
apply-requires-clause-known g c = target-known c.args.library.now.recorder.theory (goal_of c.args.goal.now) c.requires.known

pub by_equation-requires-clause-equation : goal.by_equation-requires-clause-equation
by_equation-requires-clause-equation g c =
    conversions-answer-equations (g.H.Converters.conversions c.args.hosts.now) c.args.library.now.recorder.theory (store_in c.args.library.now) 0 c.args.fuel.now.left c.apply.new.fuel.left
    (conversion_of c.args.conv.now) c.args.goal.now.concl c.in_ok-theorem.theorem.theorem c.in_ok-theorem.ensures.outcome

pub returns-clause-outcome : goal.returns-clause-outcome
returns-clause-outcome g c =
    by-conversion c.args.library.now.recorder.theory (host_of (g.H.Refiners.refiners c.args.hosts.now) (g.H.Converters.conversions c.args.hosts.now))
    (store_in c.args.library.now) (store_in c.apply.new.library) (store_in c.by_equation.new.library) c.apply.new.library.recorder.theory c.args.fuel.now.left c.apply.new.fuel.left
    (refiners.conv_tac (conversion_of c.args.conv.now)) (goal_of c.args.goal.now) (conversion_of c.args.conv.now) c.in_ok-theorem.theorem.theorem (step_in c.by_equation.result)
    refl c.in_ok-theorem.ensures.outcome (store-same _ _ c.in_ok-theorem.ensures.continued) c.in_ok-theorem.ensures.continued.theory c.by_equation.ensures.outcome

pub returns-in_err-theorem-clause-outcome : goal.returns-in_err-theorem-clause-outcome
returns-in_err-theorem-clause-outcome g c =
    rw (passed_on c.from_residual.result c.in_err-theorem.field-0.0 c.from_residual.ensures.1)
    (not-converted c.args.library.now.recorder.theory (host_of (g.H.Refiners.refiners c.args.hosts.now) (g.H.Converters.conversions c.args.hosts.now))
    (store_in c.args.library.now) (store_in c.apply.new.library) c.args.fuel.now.left c.apply.new.fuel.left
    (refiners.conv_tac (conversion_of c.args.conv.now)) (goal_of c.args.goal.now) (conversion_of c.args.conv.now) c.in_err-theorem.field-0.0
    refl c.in_err-theorem.ensures.outcome (store-same _ _ c.in_err-theorem.ensures.continued))
