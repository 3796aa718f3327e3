use Rattle.std.proofs.Common.{◌≡◌, ◌∙◌, false, refl}
use Rattle.hol_model.specs.Terms.Nameless.{image}
use Rattle.hol_model.specs.Logic.NamedLogic.{conjunction}
use Rattle.hol_bool.specs.PreludeInstances.{at_p_q}
use Rattle.hol_bool.proofs.ImplicationAnswers.{conjunct-leads}
use Rattle.hol_bool.proofs.PreludeSteps.{leads-concludes, where-no-room}
use Rattle.hol_bool.proofs.Passing.{unchanged}
use Rattle.hol_bool.proofs.implication_rules.first_of_both.Goals as goal

pub returns-clause-derives : goal.returns-clause-derives
returns-clause-derives c room fits =
    let a = c.args.p.now in
    let b = c.args.q.now in
    let terms_are : c.deref.result.now ≡ at_p_q a b = c.deref.ensures.value ∙ c.in_ok-terms.ensures.ok in
    c.instance_of_theorem.ensures.derives (image (conjunction a b)) room
    (conjunct-leads c.args.recorder.now.theory a b (conjunction a b) c.deref.result.now c.requires.first c.requires.second terms_are refl room fits)

pub instance_of_theorem-requires-clause-concludes : goal.instance_of_theorem-requires-clause-concludes
instance_of_theorem-requires-clause-concludes c =
    let theory = c.args.recorder.now.theory in
    let a = c.args.p.now in
    let b = c.args.q.now in
    let whole = conjunction a b in
    let terms = c.deref.result.now in
    let terms_are : terms ≡ at_p_q a b = c.deref.ensures.value ∙ c.in_ok-terms.ensures.ok in
    leads-concludes theory 13 terms false (image whole) (image a)
    (conjunct-leads theory a b whole terms c.requires.first c.requires.second terms_are refl false (where-no-room (image whole)))

pub returns-in_err-terms-clause-continues : goal.returns-in_err-terms-clause-continues
returns-in_err-terms-clause-continues c = unchanged c.args.recorder.now c.from_residual.result c.from_residual.ensures.0
