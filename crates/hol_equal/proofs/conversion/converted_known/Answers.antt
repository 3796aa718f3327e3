use Rattle.std.proofs.Common.{◌≡◌, [], ◌∷◌, ◌∙◌, List, subst, sym, None, Err}
use Rattle.hol_model.specs.Terms.NamedTerm.{NamedTerm, variable, combination, abstraction}
use Rattle.hol_model.specs.Terms.Nameless.{image}
use Rattle.hol_model.specs.Logic.Theory.{Theory, IsKnown}
use Rattle.hol_model.specs.Logic.Derivable.{nameless_equation}
use Rattle.hol_model.specs.Kernel.Outcome.{Answers}
use Rattle.hol_model.specs.Kernel.Constructors.{combination_outcome}
use Rattle.hol_model.specs.Kernel.Instantiation.{replacements_refusal}
use Rattle.hol_kernel.proofs.LimitLemmas.{applied}
use Rattle.hol_equal.specs.Conversions.{trivial}
use Rattle.hol_equal.proofs.StepLemmas.{is_known-where, passed_on}
use Rattle.hol_equal.proofs.BetaLemmas.{trivial-known, replacement-passes}
use Rattle.hol_equal.proofs.ConversionLemmas.{trivial-past, equation-past, converted-derives}
use Rattle.hol_equal.proofs.conversion.converted_known.Goals as goal

pub returns-in_err-trivial-clause-derives : goal.returns-in_err-trivial-clause-derives
returns-in_err-trivial-clause-derives c name ty codomain body function_is binder_is body_typed argument_typed known =
    rw (passed_on c.from_residual.result c.in_err-trivial.field-0.0 c.from_residual.ensures.1)
    (trivial-past name ty codomain body c.args.argument.now body_typed argument_typed c.args.recorder.now.theory c.in_err-trivial.field-0.0
    (subst (λ (f : NamedTerm). Answers {A = NamedTerm} (Err c.in_err-trivial.field-0.0) (combination_outcome f (variable name ty))) function_is
    (subst (λ (b : NamedTerm). Answers {A = NamedTerm} (Err c.in_err-trivial.field-0.0) (combination_outcome c.args.function.now b)) binder_is c.in_err-trivial.ensures.outcome)))

pub beta_known-requires : goal.beta_known-requires
beta_known-requires c =
    let theory = c.args.recorder.now.theory in
    let argument = c.args.argument.now in
    let is = c.requires in
    let made = applied c.args.function.now c.args.binder.now c.in_ok-trivial.trivial c.in_ok-trivial.ensures.outcome in
    let trivial_is : c.in_ok-trivial.trivial ≡ combination (abstraction is.name is.ty is.body) (variable is.name is.ty) = made.is ∙ (λ i. combination (is.function_is i) (is.binder_is i)) in
    is_known-where theory c.in_ok-trivial.trivial is.codomain
    (subst (λ (t : NamedTerm). IsKnown theory (image t) is.codomain) (sym trivial_is) (trivial-known theory is.name is.ty is.codomain is.body argument is.body_typed is.argument_typed is.known))

pub returns-in_err-equation-clause-derives : goal.returns-in_err-equation-clause-derives
returns-in_err-equation-clause-derives c name ty codomain body function_is binder_is body_typed argument_typed known =
    let theory = c.args.recorder.now.theory in
    let made = applied c.args.function.now c.args.binder.now c.in_ok-trivial.trivial c.in_ok-trivial.ensures.outcome in
    let trivial_is : c.in_ok-trivial.trivial ≡ combination (abstraction name ty body) (variable name ty) = made.is ∙ (λ i. combination (function_is i) (binder_is i)) in
    let trivial_known = subst (λ (t : NamedTerm). IsKnown theory (image t) codomain) (sym trivial_is)
    (trivial-known theory name ty codomain body c.args.argument.now body_typed argument_typed known) in
    rw (passed_on c.from_residual-in_err-equation.result c.in_err-equation.field-0.0 c.from_residual-in_err-equation.ensures.1)
    (equation-past name ty codomain body c.args.argument.now body_typed argument_typed c.in_err-equation.field-0.0
    (c.in_err-equation.ensures.derives name ty codomain body trivial_is body_typed trivial_known))

pub inst_known-requires-clause-known : goal.inst_known-requires-clause-known
inst_known-requires-clause-known c =
    let theory = c.args.recorder.now.theory in
    let argument = c.args.argument.now in
    let is = c.requires in
    let new_is : c.in_ok-new.new ≡ argument = c.in_ok-new.ensures.ok in
    let old_is : c.in_ok-old.old ≡ variable is.name is.ty = c.in_ok-old.ensures.ok ∙ is.binder_is in
    let theta : List (NamedTerm × NamedTerm) = (c.in_ok-new.new, c.in_ok-old.old) ∷ [] in
    let theta_is : theta ≡ (argument, variable is.name is.ty) ∷ [] = λ i. (new_is i, old_is i) ∷ [] in
    subst (λ (th : Theory). replacements_refusal th theta ≡ None) (sym c.in_ok-equation.ensures.continues.theory)
    (subst (λ (l : List (NamedTerm × NamedTerm)). replacements_refusal theory l ≡ None) (sym theta_is)
    (replacement-passes theory is.name is.ty is.codomain is.body argument is.body_typed is.argument_typed is.known))

pub returns-clause-derives : goal.returns-clause-derives
returns-clause-derives c name ty codomain body function_is binder_is body_typed argument_typed known =
    let theory = c.args.recorder.now.theory in
    let argument = c.args.argument.now in
    let made = applied c.args.function.now c.args.binder.now c.in_ok-trivial.trivial c.in_ok-trivial.ensures.outcome in
    let trivial_is : c.in_ok-trivial.trivial ≡ combination (abstraction name ty body) (variable name ty) = made.is ∙ (λ i. combination (function_is i) (binder_is i)) in
    let trivial_known = subst (λ (t : NamedTerm). IsKnown theory (image t) codomain) (sym trivial_is) (trivial-known theory name ty codomain body argument body_typed argument_typed known) in
    let converted = c.in_ok-equation.ensures.derives name ty codomain body trivial_is body_typed trivial_known in
    let new_is : c.in_ok-new.new ≡ argument = c.in_ok-new.ensures.ok in
    let old_is : c.in_ok-old.old ≡ variable name ty = c.in_ok-old.ensures.ok ∙ binder_is in
    let theta : List (NamedTerm × NamedTerm) = (c.in_ok-new.new, c.in_ok-old.old) ∷ [] in
    let theta_is : theta ≡ (argument, variable name ty) ∷ [] = λ i. (new_is i, old_is i) ∷ [] in
    let passes = subst (λ (th : Theory). replacements_refusal th theta ≡ None) (sym c.in_ok-equation.ensures.continues.theory)
    (subst (λ (l : List (NamedTerm × NamedTerm)). replacements_refusal theory l ≡ None) (sym theta_is) (replacement-passes theory name ty codomain body argument body_typed argument_typed known)) in
    converted-derives name ty codomain body argument body_typed argument_typed c.inst_known.result theta theta_is
    (c.inst_known.ensures.derives passes [] (nameless_equation codomain (trivial name ty body) (image body)) converted)
