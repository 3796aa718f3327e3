use Rattle.std.proofs.Common.{Ok, Err}
use Rattle.hol_model.specs.Derived.DerivedRules.{images, terms_of_theorem, conjunct1_outcome, conjunct2_outcome}
use Rattle.hol_bool.proofs.PreludeSteps.{still_logical}
use Rattle.hol_equal.proofs.StepLemmas.{still_made, passed_on}
use Rattle.hol_rewrite.specs.Rules.{are_small}
use Rattle.hol_rewrite.proofs.FormLemmas.{both-parts}
use Rattle.hol_rewrite.proofs.Reducing.{parts-are}
use Rattle.hol_rewrite.proofs.RoomSteps.{stated-past, left_room, right_room}
use Rattle.hol_rewrite.proofs.Steps.{concludes-ok, conjunct1-is, conjunct2-is}
use Rattle.hol_rewrite.proofs.reduction.parts.Goals as goal

pub conjunct2-requires-clause-logic : goal.conjunct2-requires-clause-logic
conjunct2-requires-clause-logic c = still_logical c.args.recorder.now c.conjunct1.new.recorder (Ok c.in_ok-left.left) c.args.logic.now c.in_ok-left.ensures.continues c.requires.logic

pub conjunct2-requires-clause-premise : goal.conjunct2-requires-clause-premise
conjunct2-requires-clause-premise c = still_made c.args.recorder.now c.conjunct1.new.recorder (Ok c.in_ok-left.left) c.args.theorem.now c.in_ok-left.ensures.continues c.requires.made

pub returns-clause-reduced : goal.returns-clause-reduced
returns-clause-reduced c hypotheses same =
    let premise = c.args.theorem.now.theorem in
    let p = c.requires.form.0 in
    let q = c.requires.form.1 in
    let form = c.requires.form.2 in
    let dest = both-parts premise.conclusion p q form in
    let left = c.in_ok-left.left in
    let right = c.in_ok-right.right in
    let left_is = concludes-ok (Ok left) (terms_of_theorem premise) premise p (conjunct1_outcome premise) (conjunct1-is premise p q dest) c.in_ok-left.ensures.outcome in
    let right_is = concludes-ok (Ok right) (terms_of_theorem premise) premise q (conjunct2_outcome premise) (conjunct2-is premise p q dest) c.in_ok-right.ensures.outcome in
    let left_made = still_made c.conjunct1.new.recorder c.conjunct2.new.recorder (Ok right) left c.in_ok-right.ensures.continues c.in_ok-left.ensures.continues.held.made in
    parts-are c.conjunct2.new.recorder hypotheses premise p q left right form same left_is right_is left_made c.in_ok-right.ensures.continues.held.made

pub returns-in_err-right-clause-err : goal.returns-in_err-right-clause-err
returns-in_err-right-clause-err c =
    let premise = c.args.theorem.now.theorem in
    let p = c.requires.form.0 in
    let q = c.requires.form.1 in
    let dest = both-parts premise.conclusion p q c.requires.form.2 in
    let fault = c.in_err-right.field-0.0 in
    rw (passed_on c.from_residual-in_err-right.result fault c.from_residual-in_err-right.ensures.1)
    (stated-past (Err fault) (terms_of_theorem premise) (images premise) q (conjunct2_outcome premise) (are_small premise) (conjunct2-is premise p q dest)
    (right_room premise p q dest) c.in_err-right.ensures.outcome)

pub returns-in_err-left-clause-err : goal.returns-in_err-left-clause-err
returns-in_err-left-clause-err c =
    let premise = c.args.theorem.now.theorem in
    let p = c.requires.form.0 in
    let q = c.requires.form.1 in
    let dest = both-parts premise.conclusion p q c.requires.form.2 in
    let fault = c.in_err-left.field-0.0 in
    rw (passed_on c.from_residual.result fault c.from_residual.ensures.1)
    (stated-past (Err fault) (terms_of_theorem premise) (images premise) p (conjunct1_outcome premise) (are_small premise) (conjunct1-is premise p q dest)
    (left_room premise p q dest) c.in_err-left.ensures.outcome)
