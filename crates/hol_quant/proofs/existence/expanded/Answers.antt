use Rattle.std.proofs.Common.{◌≡◌, [], ◌∙◌, ap, subst, sym}
use Rattle.std.specs.List.{list_all}
use Rattle.hol_model.specs.Terms.HolType.{bool_type}
use Rattle.hol_model.specs.Terms.NamedTerm.{NamedTerm, combination}
use Rattle.hol_model.specs.Terms.Nameless.{Nameless, image}
use Rattle.hol_model.specs.Logic.Theory.{Theory, IsKnown}
use Rattle.hol_model.specs.Logic.Derivable.{nameless_equation}
use Rattle.hol_model.specs.Derived.DerivedRules.{images, is_roomy}
use Rattle.hol_kernel.proofs.LimitLemmas.{applied}
use Rattle.hol_equal.specs.Room.{FitsIf}
use Rattle.hol_equal.specs.Sequents.{Shows, DerivesIf}
use Rattle.hol_quant.proofs.GenLemmas.{truth}
use Rattle.hol_quant.proofs.ExistsLemmas.{roomy-fits, small, redex, redex_passes, redex_known, redex_image, redex-fits, redex-past, conversion-past, instance-past, truth-past, conversion-at}
use Rattle.hol_equal.proofs.StepLemmas.{passed_on, trans-fits}
use Rattle.hol_bool.proofs.Passing.{unchanged}
use Rattle.hol_prelude.proofs.StoredLemmas.{logic-stays}
use Rattle.hol_quant.proofs.existence.expanded.Goals as goal

pub returns-in_err-redex-clause-derives : goal.returns-in_err-redex-clause-derives
returns-in_err-redex-clause-derives c given =
    rw (passed_on c.from_residual.result c.in_err-redex.field-0.0 c.from_residual.ensures.1) (
    let theory = c.args.recorder.now.theory in
    let function = c.args.function.now in
    let binder = c.args.binder.now in
    let body = given.body in
    let witness = c.args.witness.now in
    let premise = c.args.premise.now.theorem in
    let instance = image premise.conclusion in
    let formula = given.formula in
    let at = given.witnessed in
    redex-past theory formula function binder body witness instance at c.in_err-redex.field-0.0 c.in_err-redex.ensures.outcome)

pub returns-in_err-conversion-clause-derives : goal.returns-in_err-conversion-clause-derives
returns-in_err-conversion-clause-derives c given =
    rw (passed_on c.from_residual-in_err-conversion.result c.in_err-conversion.field-0.0 c.from_residual-in_err-conversion.ensures.1) (
    let theory = c.args.recorder.now.theory in
    let function = c.args.function.now in
    let binder = c.args.binder.now in
    let body = given.body in
    let witness = c.args.witness.now in
    let premise = c.args.premise.now.theorem in
    let instance = image premise.conclusion in
    let formula = given.formula in
    let at = given.witnessed in
    conversion-past theory formula function binder body witness instance at c.in_err-conversion.field-0.0
    (c.in_err-conversion.ensures.derives at.parts.name at.parts.ty bool_type body at.parts.function_is at.parts.binder_is at.parts.body_typed
    at.witness_typed (redex_passes theory formula function binder body witness instance at)))

pub returns-in_err-equal-clause-derives : goal.returns-in_err-equal-clause-derives
returns-in_err-equal-clause-derives c given =
    rw (passed_on c.from_residual-in_err-equal.result c.in_err-equal.field-0.0 c.from_residual-in_err-equal.ensures.1) (
    let theory = c.args.recorder.now.theory in
    let function = c.args.function.now in
    let binder = c.args.binder.now in
    let body = given.body in
    let witness = c.args.witness.now in
    let premise = c.args.premise.now.theorem in
    let instance = image premise.conclusion in
    let formula = given.formula in
    let at = given.witnessed in
    instance-past theory formula function binder body witness instance at c.in_err-equal.field-0.0 (c.in_err-equal.ensures.derives (is_roomy instance) (roomy-fits instance)))

pub returns-in_err-redex_equal-clause-derives : goal.returns-in_err-redex_equal-clause-derives
returns-in_err-redex_equal-clause-derives c given =
    rw (passed_on c.from_residual-in_err-redex_equal.result c.in_err-redex_equal.field-0.0 c.from_residual-in_err-redex_equal.ensures.1) (
    let theory = c.args.recorder.now.theory in
    let function = c.args.function.now in
    let binder = c.args.binder.now in
    let body = given.body in
    let witness = c.args.witness.now in
    let premise = c.args.premise.now.theorem in
    let instance = image premise.conclusion in
    let formula = given.formula in
    let at = given.witnessed in
    let conversion = c.in_ok-conversion.ensures.derives at.parts.name at.parts.ty bool_type body at.parts.function_is at.parts.binder_is
    at.parts.body_typed at.witness_typed (redex_passes theory formula function binder body witness instance at) in
    let conversion_shown = conversion-at theory formula function binder body witness instance at c.in_ok-conversion.conversion.theorem conversion in
    truth-past theory formula function binder body witness instance at c.in_err-redex_equal.field-0.0
    (c.in_err-redex_equal.ensures.derives [] (images premise) bool_type
    (redex theory formula function binder body witness instance at) instance truth conversion_shown
    (c.in_ok-equal.ensures.derives (is_roomy instance) (roomy-fits instance))))

pub from_truth-requires-clause-logic : goal.from_truth-requires-clause-logic
from_truth-requires-clause-logic c =
    let logic = c.args.logic.now in
    let one = logic-stays c.args.recorder.now c.converted_known.new.recorder logic c.in_ok-conversion.ensures.continues.grown c.requires.logic in
    let two = logic-stays c.converted_known.new.recorder c.equal_to_truth.new.recorder logic c.in_ok-equal.ensures.continues.grown one in
    logic-stays c.equal_to_truth.new.recorder c.trans_known.new.recorder logic c.in_ok-redex_equal.ensures.continues.grown two

pub converted_known-requires : goal.converted_known-requires
converted_known-requires c =
    let theory = c.args.recorder.now.theory in
    let function = c.args.function.now in
    let binder = c.args.binder.now in
    let body = c.requires.instance.body in
    let witness = c.args.witness.now in
    let premise = c.args.premise.now.theorem in
    let instance = image premise.conclusion in
    let formula = c.requires.instance.formula in
    let at = c.requires.instance.witnessed in
    record {
      name = at.parts.name;
      ty = at.parts.ty;
      codomain = bool_type;
      body = body;
      function_is = at.parts.function_is;
      binder_is = at.parts.binder_is;
      body_typed = at.parts.body_typed;
      argument_typed = at.witness_typed;
      known = redex_passes theory formula function binder body witness instance at;
    }

pub trans_known-requires-clause-fits : goal.trans_known-requires-clause-fits
trans_known-requires-clause-fits c =
    let theory = c.args.recorder.now.theory in
    let function = c.args.function.now in
    let binder = c.args.binder.now in
    let body = c.requires.instance.body in
    let witness = c.args.witness.now in
    let premise = c.args.premise.now.theorem in
    let instance = image premise.conclusion in
    let formula = c.requires.instance.formula in
    let at = c.requires.instance.witnessed in
    let conversion = c.in_ok-conversion.ensures.derives at.parts.name at.parts.ty bool_type body at.parts.function_is at.parts.binder_is
    at.parts.body_typed at.witness_typed (redex_passes theory formula function binder body witness instance at) in
    let conversion_shown = conversion-at theory formula function binder body witness instance at c.in_ok-conversion.conversion.theorem conversion in
    trans-fits c.in_ok-conversion.conversion.theorem c.in_ok-equal.equal.theorem [] (images premise) bool_type (redex theory formula function binder body witness instance at) instance truth
    conversion_shown (c.in_ok-equal.ensures.derives (is_roomy instance) (roomy-fits instance))

pub from_truth-requires-clause-known : goal.from_truth-requires-clause-known
from_truth-requires-clause-known c =
    let theory = c.args.recorder.now.theory in
    let function = c.args.function.now in
    let binder = c.args.binder.now in
    let body = c.requires.instance.body in
    let witness = c.args.witness.now in
    let premise = c.args.premise.now.theorem in
    let instance = image premise.conclusion in
    let formula = c.requires.instance.formula in
    let at = c.requires.instance.witnessed in
    let later : c.trans_known.new.recorder.theory ≡ theory = c.in_ok-redex_equal.ensures.continues.theory ∙ c.in_ok-equal.ensures.continues.theory ∙ c.in_ok-conversion.ensures.continues.theory in
    let made_is : c.in_ok-redex.redex ≡ combination function witness = (applied function witness c.in_ok-redex.redex c.in_ok-redex.ensures.outcome).is in
    subst (λ (th : Theory). IsKnown th (image c.in_ok-redex.redex) bool_type) (sym later)
    (subst (λ (t : NamedTerm). IsKnown theory (image t) bool_type) (sym made_is)
    (redex_known theory formula function binder body witness instance at))

pub from_truth-requires-clause-fits : goal.from_truth-requires-clause-fits
from_truth-requires-clause-fits c =
    let theory = c.args.recorder.now.theory in
    let function = c.args.function.now in
    let binder = c.args.binder.now in
    let body = c.requires.instance.body in
    let witness = c.args.witness.now in
    let premise = c.args.premise.now.theorem in
    let instance = image premise.conclusion in
    let formula = c.requires.instance.formula in
    let at = c.requires.instance.witnessed in
    let conversion = c.in_ok-conversion.ensures.derives at.parts.name at.parts.ty bool_type body at.parts.function_is at.parts.binder_is
    at.parts.body_typed at.witness_typed (redex_passes theory formula function binder body witness instance at) in
    let conversion_shown = conversion-at theory formula function binder body witness instance at c.in_ok-conversion.conversion.theorem conversion in
    let made_is : c.in_ok-redex.redex ≡ combination function witness = (applied function witness c.in_ok-redex.redex c.in_ok-redex.ensures.outcome).is in
    let redex_is : image c.in_ok-redex.redex ≡ redex theory formula function binder body witness instance at = ap image made_is ∙ redex_image theory formula function binder body witness instance at in
    let equal : Shows c.in_ok-redex_equal.redex_equal.theorem (images premise) (nameless_equation bool_type (redex theory formula function binder body witness instance at) truth) =
    c.in_ok-redex_equal.ensures.derives [] (images premise) bool_type
    (redex theory formula function binder body witness instance at) instance truth conversion_shown
    (c.in_ok-equal.ensures.derives (is_roomy instance) (roomy-fits instance)) in
    equal.concludes ∙ ap (λ (t : Nameless). nameless_equation bool_type t truth) (sym redex_is)

pub returns-clause-derives : goal.returns-clause-derives
returns-clause-derives c given =
    let theory = c.args.recorder.now.theory in
    let function = c.args.function.now in
    let binder = c.args.binder.now in
    let body = given.body in
    let witness = c.args.witness.now in
    let premise = c.args.premise.now.theorem in
    let instance = image premise.conclusion in
    let formula = given.formula in
    let at = given.witnessed in
    let conversion = c.in_ok-conversion.ensures.derives at.parts.name at.parts.ty bool_type body at.parts.function_is at.parts.binder_is
    at.parts.body_typed at.witness_typed (redex_passes theory formula function binder body witness instance at) in
    let conversion_shown = conversion-at theory formula function binder body witness instance at c.in_ok-conversion.conversion.theorem conversion in
    let made_is : c.in_ok-redex.redex ≡ combination function witness = (applied function witness c.in_ok-redex.redex c.in_ok-redex.ensures.outcome).is in
    let fits = list_all is_roomy (small theory formula function binder body witness instance at) in
    let redex_is : image c.in_ok-redex.redex ≡ redex theory formula function binder body witness instance at = ap image made_is ∙ redex_image theory formula function binder body witness instance at in
    let equal = c.in_ok-redex_equal.ensures.derives [] (images premise) bool_type
    (redex theory formula function binder body witness instance at) instance truth conversion_shown
    (c.in_ok-equal.ensures.derives (is_roomy instance) (roomy-fits instance)) in
    let shown = subst (λ (t : Nameless). Shows c.in_ok-redex_equal.redex_equal.theorem (images premise) (nameless_equation bool_type t truth)) (sym redex_is) equal in
    subst (λ (t : NamedTerm). DerivesIf fits c.from_truth.result (images premise) (image t)) made_is
    (c.from_truth.ensures.derives fits (images premise)
    (subst (λ (t : NamedTerm). FitsIf fits (image t)) (sym made_is) (redex-fits theory formula function binder body witness instance at)) shown)

pub returns-in_err-redex-clause-continues : goal.returns-in_err-redex-clause-continues
returns-in_err-redex-clause-continues c = unchanged c.args.recorder.now c.from_residual.result c.from_residual.ensures.0
