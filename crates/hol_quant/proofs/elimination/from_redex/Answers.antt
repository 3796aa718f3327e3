use Rattle.std.proofs.Common.{◌≡◌, ◌∙◌, [], ◌∷◌, ap, inl, subst, sym}
use Rattle.hol_model.specs.Terms.HolType.{bool_type}
use Rattle.hol_model.specs.Terms.NamedTerm.{NamedTerm}
use Rattle.hol_model.specs.Terms.Nameless.{Nameless, image}
use Rattle.hol_model.specs.Logic.Theory.{Theory, IsKnown}
use Rattle.hol_model.specs.Derived.DerivedRules.{is_roomy}
use Rattle.hol_model.specs.Logic.Derivable.{nameless_equation}
use Rattle.hol_equal.specs.Conversions.{conversion_fits}
use Rattle.hol_equal.specs.Formulas.{IsFormula}
use Rattle.hol_equal.specs.Sequents.{Shows}
use Rattle.hol_equal.proofs.CutLemmas.{given-derives}
use Rattle.hol_equal.proofs.Sizes.{past-room}
use Rattle.hol_quant.proofs.ChooseLemmas.{formula, applied, witness, argument-typed, applied_image, applied-formula, none-unknown, conversion-fits}
use Rattle.hol_equal.proofs.StepLemmas.{passed_on}
use Rattle.hol_quant.proofs.elimination.from_redex.Goals as goal

pub returns-in_err-equation-clause-derives : goal.returns-in_err-equation-clause-derives
returns-in_err-equation-clause-derives c at is =
    rw (passed_on c.from_residual.result c.in_err-equation.field-0.0 c.from_residual.ensures.1) (
    let theory = c.args.recorder.now.theory in
    let function = c.args.function.now in
    let binder = c.args.binder.now in
    let argument = c.args.argument.now in
    past-room c.in_err-equation.field-0.0 (conversion_fits at.name at.ty bool_type at.body argument) (is_roomy (formula theory function binder argument at))
    (c.in_err-equation.ensures.derives at.name at.ty bool_type at.body at.function_is at.binder_is at.body_typed
    (argument-typed theory function binder argument at) (none-unknown theory function binder argument at))
    (conversion-fits theory function binder argument at))

pub returns-in_err-assumed-clause-derives : goal.returns-in_err-assumed-clause-derives
returns-in_err-assumed-clause-derives c at is =
    rw (passed_on c.from_residual-in_err-assumed.result c.in_err-assumed.field-0.0 c.from_residual-in_err-assumed.ensures.1) (
    let theory = c.args.recorder.now.theory in
    let known = subst (λ (t : NamedTerm). IsKnown theory (image t) bool_type) (sym is) (applied-formula theory c.args.function.now c.args.binder.now c.args.argument.now at).known in
    inl (c.in_err-assumed.ensures.gives (subst (λ (th : Theory). IsKnown th (image c.args.applied.now) bool_type) (sym c.in_ok-equation.ensures.continues.theory) known)))

pub converted_known-requires : goal.converted_known-requires
converted_known-requires c =
    let theory = c.args.recorder.now.theory in
    let function = c.args.function.now in
    let binder = c.args.binder.now in
    let argument = c.args.argument.now in
    let at = c.requires.at in
    record {
      name = at.name;
      ty = at.ty;
      codomain = bool_type;
      body = at.body;
      function_is = at.function_is;
      binder_is = at.binder_is;
      body_typed = at.body_typed;
      argument_typed = argument-typed theory function binder argument at;
      known = none-unknown theory function binder argument at;
    }

pub assume_known-requires : goal.assume_known-requires
assume_known-requires c =
    let theory = c.args.recorder.now.theory in
    let formula = subst (λ (t : NamedTerm). IsFormula theory t) (sym c.requires.applied) (applied-formula theory c.args.function.now c.args.binder.now c.args.argument.now c.requires.at) in
    subst (λ (th : Theory). IsFormula th c.args.applied.now) (sym c.in_ok-equation.ensures.continues.theory) formula

pub eq_mp_known-requires-clause-fits : goal.eq_mp_known-requires-clause-fits
eq_mp_known-requires-clause-fits c =
    let theory = c.args.recorder.now.theory in
    let function = c.args.function.now in
    let binder = c.args.binder.now in
    let argument = c.args.argument.now in
    let at = c.requires.at in
    let is = c.requires.applied in
    let redex = applied theory function binder argument at in
    let result = witness theory function binder argument at in
    let equation : Shows c.in_ok-equation.equation.theorem [] (nameless_equation bool_type redex result) =
    c.in_ok-equation.ensures.derives at.name at.ty bool_type at.body at.function_is at.binder_is at.body_typed
    (argument-typed theory function binder argument at) (none-unknown theory function binder argument at) in
    let known = subst (λ (t : NamedTerm). IsKnown theory (image t) bool_type) (sym is) (applied-formula theory function binder argument at).known in
    let assumed : Shows c.in_ok-assumed.assumed.theorem (image c.args.applied.now ∷ []) (image c.args.applied.now) =
    c.in_ok-assumed.ensures.gives (subst (λ (th : Theory). IsKnown th (image c.args.applied.now) bool_type) (sym c.in_ok-equation.ensures.continues.theory) known) in
    let redex_is : image c.args.applied.now ≡ redex = ap image is ∙ applied_image theory function binder argument at in
    record { right = result; first_is = equation.concludes ∙ ap (λ (t : Nameless). nameless_equation bool_type t result) (sym (assumed.concludes ∙ redex_is)) }

pub returns-clause-derives : goal.returns-clause-derives
returns-clause-derives c at is =
    let theory = c.args.recorder.now.theory in
    let function = c.args.function.now in
    let binder = c.args.binder.now in
    let argument = c.args.argument.now in
    let redex = applied theory function binder argument at in
    let result = witness theory function binder argument at in
    let equation = c.in_ok-equation.ensures.derives at.name at.ty bool_type at.body at.function_is at.binder_is at.body_typed
    (argument-typed theory function binder argument at) (none-unknown theory function binder argument at) in
    let known = subst (λ (t : NamedTerm). IsKnown theory (image t) bool_type) (sym is) (applied-formula theory function binder argument at).known in
    let redex_is : image c.args.applied.now ≡ redex = ap image is ∙ applied_image theory function binder argument at in
    let assumed = subst (λ (t : Nameless). Shows c.in_ok-assumed.assumed.theorem (t ∷ []) t) redex_is
    (c.in_ok-assumed.ensures.gives (subst (λ (th : Theory). IsKnown th (image c.args.applied.now) bool_type) (sym c.in_ok-equation.ensures.continues.theory) known)) in
    given-derives (is_roomy (formula theory function binder argument at)) c.eq_mp_known.result (redex ∷ []) result (c.eq_mp_known.ensures.gives [] (redex ∷ []) redex result equation assumed)
