use Rattle.std.proofs.Common.{◌≡◌, ◌∙◌, [], ◌∷◌, List, ap, subst, sym}
use Rattle.hol_model.specs.Terms.HolType.{bool_type}
use Rattle.hol_model.specs.Terms.NamedTerm.{NamedTerm}
use Rattle.hol_model.specs.Terms.Nameless.{Nameless, app, image}
use Rattle.hol_model.specs.Terms.Measures.{nameless_within_limits}
use Rattle.hol_model.specs.Logic.Theory.{Theory}
use Rattle.hol_model.specs.Logic.Logic as nameless
use Rattle.hol_model.specs.Logic.Derivable.{without, nameless_equation}
use Rattle.hol_model.specs.Derived.DerivedRules.{images, is_roomy}
use Rattle.hol_kernel.proofs.LimitLemmas as limits
use Rattle.hol_equal.specs.Formulas.{IsFormula}
use Rattle.hol_equal.specs.Room.{FitsIf}
use Rattle.hol_equal.specs.Sequents.{Shows, DerivesIf}
use Rattle.hol_equal.proofs.BetaLemmas.{applied-past}
use Rattle.hol_equal.proofs.CutLemmas.{shows-itself}
use Rattle.hol_bool.proofs.ImplicationAnswers.{disch_equation, disch-fits}
use Rattle.hol_equal.proofs.Sizes.{past-room}
use Rattle.hol_quant.proofs.ChooseLemmas.{formula, applied, witness, applied_image, applied-formula, room, first-roomy, second-sized, applied-sized, applied-within, cut-within}
use Rattle.hol_equal.proofs.StepLemmas.{passed_on}
use Rattle.hol_bool.proofs.Passing.{unchanged}
use Rattle.hol_quant.proofs.elimination.implied_by_redex.Goals as goal

pub returns-in_err-applied-clause-derives : goal.returns-in_err-applied-clause-derives
returns-in_err-applied-clause-derives c at =
    rw (passed_on c.from_residual.result c.in_err-applied.field-0.0 c.from_residual.ensures.1) (
    let theory = c.args.recorder.now.theory in
    let function = c.args.function.now in
    let binder = c.args.binder.now in
    let argument = c.args.argument.now in
    let q = c.args.premise.now.theorem.conclusion in
    past-room c.in_err-applied.field-0.0 (nameless_within_limits (app (image function) (image argument))) (room theory function binder argument at q)
    (applied-past c.in_err-applied.field-0.0 function argument bool_type (applied-formula theory function binder argument at).typed c.in_err-applied.ensures.outcome) (applied-within theory function binder argument at q))

pub from_redex-requires-clause-applied : goal.from_redex-requires-clause-applied
from_redex-requires-clause-applied c = (limits.applied c.args.function.now c.args.argument.now c.in_ok-applied.applied c.in_ok-applied.ensures.outcome).is

pub returns-in_err-witness-clause-derives : goal.returns-in_err-witness-clause-derives
returns-in_err-witness-clause-derives c at =
    rw (passed_on c.from_residual-in_err-witness.result c.in_err-witness.field-0.0 c.from_residual-in_err-witness.ensures.1) (
    let theory = c.args.recorder.now.theory in
    let function = c.args.function.now in
    let binder = c.args.binder.now in
    let argument = c.args.argument.now in
    let q = c.args.premise.now.theorem.conclusion in
    let made_is = (limits.applied function argument c.in_ok-applied.applied c.in_ok-applied.ensures.outcome).is in
    past-room c.in_err-witness.field-0.0 (is_roomy (formula theory function binder argument at)) (room theory function binder argument at q)
    (c.in_err-witness.ensures.derives at made_is) (first-roomy theory function binder argument at q))

pub returns-in_err-consequent-clause-derives : goal.returns-in_err-consequent-clause-derives
returns-in_err-consequent-clause-derives c at =
    rw (passed_on c.from_residual-in_err-consequent.result c.in_err-consequent.field-0.0 c.from_residual-in_err-consequent.ensures.1) (
    let theory = c.args.recorder.now.theory in
    let function = c.args.function.now in
    let binder = c.args.binder.now in
    let argument = c.args.argument.now in
    let premise = c.args.premise.now.theorem in
    let q = premise.conclusion in
    let made_is = (limits.applied function argument c.in_ok-applied.applied c.in_ok-applied.ensures.outcome).is in
    let w = witness theory function binder argument at in
    past-room c.in_err-consequent.field-0.0 (nameless_within_limits (nameless_equation bool_type w (image q))) (room theory function binder argument at q)
    (c.in_err-consequent.ensures.derives (applied theory function binder argument at ∷ []) (images premise) w (image q) (c.in_ok-witness.ensures.derives at made_is) (shows-itself premise))
    (cut-within theory function binder argument at q))

pub disch_in_room-requires-clause-formula : goal.disch_in_room-requires-clause-formula
disch_in_room-requires-clause-formula c =
    let theory = c.args.recorder.now.theory in
    let function = c.args.function.now in
    let argument = c.args.argument.now in
    let made_is = (limits.applied function argument c.in_ok-applied.applied c.in_ok-applied.ensures.outcome).is in
    let later : c.cut.new.recorder.theory ≡ theory = c.in_ok-consequent.ensures.continues.theory ∙ c.in_ok-witness.ensures.continues.theory in
    subst (λ (th : Theory). IsFormula th c.in_ok-applied.applied) (sym later)
    (subst (λ (t : NamedTerm). IsFormula theory t) (sym made_is) (applied-formula theory function c.args.binder.now argument c.requires.at))

pub returns-clause-derives : goal.returns-clause-derives
returns-clause-derives c at =
    let theory = c.args.recorder.now.theory in
    let function = c.args.function.now in
    let binder = c.args.binder.now in
    let argument = c.args.argument.now in
    let premise = c.args.premise.now.theorem in
    let q = premise.conclusion in
    let made_is = (limits.applied function argument c.in_ok-applied.applied c.in_ok-applied.ensures.outcome).is in
    let redex = applied theory function binder argument at in
    let w = witness theory function binder argument at in
    let redex_is : image c.in_ok-applied.applied ≡ redex = ap image made_is ∙ applied_image theory function binder argument at in
    let left : List Nameless = redex ∷ without w (images premise) in
    let fits = room theory function binder argument at q in
    let consequent : Shows c.in_ok-consequent.consequent.theorem left (image q) =
    c.in_ok-consequent.ensures.derives (redex ∷ []) (images premise) w (image q) (c.in_ok-witness.ensures.derives at made_is) (shows-itself premise) in
    let enough : FitsIf fits (disch_equation redex (image q)) =
    disch-fits fits redex (image q) (λ all. applied-sized theory function binder argument at (first-roomy theory function binder argument at q all))
    (second-sized theory function binder argument at q) in
    subst (λ (t : Nameless). DerivesIf fits c.disch_in_room.result (without t left) (nameless.implication t (image q))) redex_is
    (c.disch_in_room.ensures.derives left (image q) fits consequent (subst (λ (t : Nameless). FitsIf fits (disch_equation t (image q))) (sym redex_is) enough))

pub returns-in_err-applied-clause-continues : goal.returns-in_err-applied-clause-continues
returns-in_err-applied-clause-continues c = unchanged c.args.recorder.now c.from_residual.result c.from_residual.ensures.0
