use Rattle.std.proofs.Common.{◌≡◌, [], ◌∷◌, subst, sym, None, Some, Err}
use Rattle.hol_model.specs.Terms.NamedTerm.{NamedTerm}
use Rattle.hol_model.specs.Terms.Nameless.{image}
use Rattle.hol_model.specs.Kernel.Rules.{first_unknown}
use Rattle.hol_model.specs.Derived.DerivedRules.{AnswersStated}
use Rattle.hol_equal.specs.Conversions.{beta_converted_outcome}
use Rattle.hol_journal.specs.Journal.{theorem_in}
use Rattle.hol_equal.proofs.BetaLemmas.{redex-of, term-is, beta_conv-walk, beta_conv-answers}
use Rattle.hol_equal.proofs.equality.beta_converted.Goals as goal

pub returns-in-Some-first_unknown-clause-outcome : goal.returns-in-Some-first_unknown-clause-outcome
returns-in-Some-first_unknown-clause-outcome c =
    let theory = c.args.recorder.now.theory in
    let term = c.args.term.now in
    let function = c.in-Some.redex.function.now in
    let binder = c.in-Some.redex.binder.now in
    let body = c.in-Some.redex.body.now in
    let argument = c.in-Some.redex.argument.now in
    let parts = redex-of term function binder body argument c.ty-type.result.now c.ty-type.ensures c.in-Some.ensures.whole c.in-Some.ensures.abstraction in
    let is = term-is term function binder body argument parts c.in-Some.ensures.whole in
    subst (λ (t : NamedTerm). AnswersStated (Err c.in-Some-first_unknown.fault) (image t ∷ []) (beta_converted_outcome theory t)) (sym is)
    (beta_conv-walk theory parts.name parts.ty parts.codomain body argument parts.body_typed parts.argument_typed c.in-Some-first_unknown.fault
    (subst (λ (t : NamedTerm). first_unknown theory t ≡ Some c.in-Some-first_unknown.fault) is (sym (rw c.theory.ensures at c.in-Some-first_unknown.ensures))))

pub converted_known-requires : goal.converted_known-requires
converted_known-requires c =
    let theory = c.args.recorder.now.theory in
    let term = c.args.term.now in
    let function = c.in-Some.redex.function.now in
    let binder = c.in-Some.redex.binder.now in
    let body = c.in-Some.redex.body.now in
    let argument = c.in-Some.redex.argument.now in
    let parts = redex-of term function binder body argument c.ty-type.result.now c.ty-type.ensures c.in-Some.ensures.whole c.in-Some.ensures.abstraction in
    let is = term-is term function binder body argument parts c.in-Some.ensures.whole in
    record {
      name = parts.name;
      ty = parts.ty;
      codomain = parts.codomain;
      body = body;
      function_is = parts.function_is;
      binder_is = parts.binder_is;
      body_typed = parts.body_typed;
      argument_typed = parts.argument_typed;
      known = subst (λ (t : NamedTerm). first_unknown theory t ≡ None) is (sym (rw c.theory.ensures at c.in-None.ensures));
    }

pub returns-clause-outcome : goal.returns-clause-outcome
returns-clause-outcome c =
    let theory = c.args.recorder.now.theory in
    let term = c.args.term.now in
    let function = c.in-Some.redex.function.now in
    let binder = c.in-Some.redex.binder.now in
    let body = c.in-Some.redex.body.now in
    let argument = c.in-Some.redex.argument.now in
    let parts = redex-of term function binder body argument c.ty-type.result.now c.ty-type.ensures c.in-Some.ensures.whole c.in-Some.ensures.abstraction in
    let is = term-is term function binder body argument parts c.in-Some.ensures.whole in
    let none = subst (λ (t : NamedTerm). first_unknown theory t ≡ None) is (sym (rw c.theory.ensures at c.in-None.ensures)) in
    subst (λ (t : NamedTerm). AnswersStated (theorem_in c.converted_known.result) (image t ∷ []) (beta_converted_outcome theory t)) (sym is)
    (beta_conv-answers theory parts.name parts.ty parts.codomain body argument parts.body_typed parts.argument_typed c.converted_known.result none
    (c.converted_known.ensures.derives parts.name parts.ty parts.codomain body parts.function_is parts.binder_is parts.body_typed parts.argument_typed none))
