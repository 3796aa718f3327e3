use Rattle.std.proofs.Common.{◌≡◌, ◌∙◌, subst, sym}
use Rattle.std.specs.List.{list_all}
use Rattle.hol_model.specs.Terms.HolType.{bool_type}
use Rattle.hol_model.specs.Logic.Logic.{exists_name, predicate}
use Rattle.hol_model.specs.Terms.Nameless.{Nameless, app, image}
use Rattle.hol_model.specs.Terms.Measures.{nameless_within_limits}
use Rattle.hol_model.specs.Logic.Theory.{Theory, IsKnown}
use Rattle.hol_model.specs.Logic.Derivable.{nameless_equation}
use Rattle.hol_model.specs.Derived.DerivedRules.{images, is_roomy}
use Rattle.hol_journal.proofs.GrowthLemmas.{journals-grow}
use Rattle.hol_equal.specs.Sequents.{Shows}
use Rattle.hol_equal.proofs.Sizes.{past-room}
use Rattle.hol_equal.proofs.CutLemmas.{derives-where}
use Rattle.hol_quant.specs.PredicateLemmas.{applied, over_predicate, lemma_fits}
use Rattle.hol_quant.proofs.PreludeParts.{witness-shows}
use Rattle.hol_quant.proofs.GenAnswers.{formula-shown}
use Rattle.hol_quant.proofs.ExistsLemmas.{small, predicate_known, redex-at, formula-at, exists-lemma-within, exists-names-within}
use Rattle.hol_equal.proofs.StepLemmas.{passed_on}
use Rattle.hol_quant.proofs.existence.exists_in_room.Goals as goal

pub returns-in_err-redex-clause-derives : goal.returns-in_err-redex-clause-derives
returns-in_err-redex-clause-derives c at =
    rw (passed_on c.from_residual.result c.in_err-redex.field-0.0 c.from_residual.ensures.1) (
    c.in_err-redex.ensures.derives (record { formula = c.args.formula.now; body = c.args.parts.body.now; witnessed = at }))

pub expanded-requires-clause-instance : goal.expanded-requires-clause-instance
expanded-requires-clause-instance c = record { formula = c.args.formula.now; body = c.args.parts.body.now; witnessed = c.requires.witnessed }

pub by_predicate_lemma-requires-clause-lemma : goal.by_predicate_lemma-requires-clause-lemma
by_predicate_lemma-requires-clause-lemma c =
    journals-grow.stays c.args.recorder.now c.expanded.new.recorder c.theorem_of-lemma.result.now c.in_ok-redex.ensures.continues.grown c.theorem_of-lemma.ensures.made

pub by_predicate_lemma-requires-clause-fits : goal.by_predicate_lemma-requires-clause-fits
by_predicate_lemma-requires-clause-fits c =
    let formula = c.args.formula.now in
    let theory = c.args.recorder.now.theory in
    let function = c.args.parts.predicate.now in
    let binder = c.args.parts.binder.now in
    let body = c.args.parts.body.now in
    let witness = c.args.witness.now in
    let premise = c.args.premise.now.theorem in
    let instance = image premise.conclusion in
    let at = c.requires.witnessed in
    let later : c.expanded.new.recorder.theory ≡ theory = c.in_ok-redex.ensures.continues.theory in
    let redex : Shows c.in_ok-redex.redex.theorem (images premise) (app (image function) (image witness)) = c.in_ok-redex.ensures.derives (record { formula = formula; body = body; witnessed = at }) in
    record {
      ty = at.parts.ty;
      function_known = subst (λ (th : Theory). IsKnown th (image function) (predicate at.parts.ty)) (sym later) (predicate_known theory formula function binder body witness instance at);
      element_known = subst (λ (th : Theory). IsKnown th (image witness) at.parts.ty) (sym later) at.witness_known;
      hypothesis = applied;
      conclusion = over_predicate exists_name;
      lemma_shows = witness-shows c.theorem_of-lemma.result.now.theorem c.theorem_of-lemma.ensures.theorem;
      premise_is = redex.concludes ∙ sym (redex-at theory formula function binder body witness instance at);
    }

pub returns-in_err-answer-clause-derives : goal.returns-in_err-answer-clause-derives
returns-in_err-answer-clause-derives c at =
    rw (passed_on c.from_residual-in_err-answer.result c.in_err-answer.field-0.0 c.from_residual-in_err-answer.ensures.1) (
    let formula = c.args.formula.now in
    let theory = c.args.recorder.now.theory in
    let function = c.args.parts.predicate.now in
    let binder = c.args.parts.binder.now in
    let body = c.args.parts.body.now in
    let witness = c.args.witness.now in
    let premise = c.args.premise.now.theorem in
    let instance = image premise.conclusion in
    let fits = list_all is_roomy (small theory formula function binder body witness instance at) in
    let shows = witness-shows c.theorem_of-lemma.result.now.theorem c.theorem_of-lemma.ensures.theorem in
    let later : c.expanded.new.recorder.theory ≡ theory = c.in_ok-redex.ensures.continues.theory in
    let function_known = subst (λ (th : Theory). IsKnown th (image function) (predicate at.parts.ty)) (sym later) (predicate_known theory formula function binder body witness instance at) in
    let witness_known = subst (λ (th : Theory). IsKnown th (image witness) at.parts.ty) (sym later) at.witness_known in
    let premise_shows = subst (λ (t : Nameless). Shows c.in_ok-redex.redex.theorem (images premise) t)
    (sym (redex-at theory formula function binder body witness instance at)) (c.in_ok-redex.ensures.derives (record { formula = formula; body = body; witnessed = at })) in
    past-room c.in_err-answer.field-0.0 (lemma_fits at.parts.ty function witness applied (over_predicate exists_name)) fits
    (c.in_err-answer.ensures.derives at.parts.ty function_known witness_known (images premise) applied
    (over_predicate exists_name) shows premise_shows) (exists-lemma-within theory formula function binder body witness instance at))

pub named_same-requires-clause-formula : goal.named_same-requires-clause-formula
named_same-requires-clause-formula c =
    let formula = c.args.formula.now in
    let theory = c.args.recorder.now.theory in
    let function = c.args.parts.predicate.now in
    let binder = c.args.parts.binder.now in
    let body = c.args.parts.body.now in
    let witness = c.args.witness.now in
    let premise = c.args.premise.now.theorem in
    let instance = image premise.conclusion in
    let at = c.requires.witnessed in
    let shows = witness-shows c.theorem_of-lemma.result.now.theorem c.theorem_of-lemma.ensures.theorem in
    let later : c.expanded.new.recorder.theory ≡ theory = c.in_ok-redex.ensures.continues.theory in
    let function_known = subst (λ (th : Theory). IsKnown th (image function) (predicate at.parts.ty)) (sym later) (predicate_known theory formula function binder body witness instance at) in
    let witness_known = subst (λ (th : Theory). IsKnown th (image witness) at.parts.ty) (sym later) at.witness_known in
    let premise_shows = subst (λ (t : Nameless). Shows c.in_ok-redex.redex.theorem (images premise) t)
    (sym (redex-at theory formula function binder body witness instance at)) (c.in_ok-redex.ensures.derives (record { formula = formula; body = body; witnessed = at })) in
    let answer : Shows c.in_ok-answer.answer.theorem (images premise) (image formula) =
    subst (λ (t : Nameless). Shows c.in_ok-answer.answer.theorem (images premise) t) (formula-at theory formula function binder body witness instance at)
    (c.in_ok-answer.ensures.derives at.parts.ty function_known witness_known (images premise) applied (over_predicate exists_name) shows premise_shows) in
    formula-shown c.by_predicate_lemma.new.recorder.theory c.in_ok-answer.answer.theorem (images premise) formula answer c.conclusion_of-answer.ensures.formula

pub named_same-requires-clause-same : goal.named_same-requires-clause-same
named_same-requires-clause-same c =
    let formula = c.args.formula.now in
    let theory = c.args.recorder.now.theory in
    let function = c.args.parts.predicate.now in
    let binder = c.args.parts.binder.now in
    let body = c.args.parts.body.now in
    let witness = c.args.witness.now in
    let premise = c.args.premise.now.theorem in
    let instance = image premise.conclusion in
    let at = c.requires.witnessed in
    let shows = witness-shows c.theorem_of-lemma.result.now.theorem c.theorem_of-lemma.ensures.theorem in
    let later : c.expanded.new.recorder.theory ≡ theory = c.in_ok-redex.ensures.continues.theory in
    let function_known = subst (λ (th : Theory). IsKnown th (image function) (predicate at.parts.ty)) (sym later) (predicate_known theory formula function binder body witness instance at) in
    let witness_known = subst (λ (th : Theory). IsKnown th (image witness) at.parts.ty) (sym later) at.witness_known in
    let premise_shows = subst (λ (t : Nameless). Shows c.in_ok-redex.redex.theorem (images premise) t)
    (sym (redex-at theory formula function binder body witness instance at)) (c.in_ok-redex.ensures.derives (record { formula = formula; body = body; witnessed = at })) in
    let answer : Shows c.in_ok-answer.answer.theorem (images premise) (image formula) =
    subst (λ (t : Nameless). Shows c.in_ok-answer.answer.theorem (images premise) t) (formula-at theory formula function binder body witness instance at)
    (c.in_ok-answer.ensures.derives at.parts.ty function_known witness_known (images premise) applied (over_predicate exists_name) shows premise_shows) in
    answer.concludes

pub returns-clause-derives : goal.returns-clause-derives
returns-clause-derives c at =
    let formula = c.args.formula.now in
    let theory = c.args.recorder.now.theory in
    let function = c.args.parts.predicate.now in
    let binder = c.args.parts.binder.now in
    let body = c.args.parts.body.now in
    let witness = c.args.witness.now in
    let premise = c.args.premise.now.theorem in
    let instance = image premise.conclusion in
    let fits = list_all is_roomy (small theory formula function binder body witness instance at) in
    let shows = witness-shows c.theorem_of-lemma.result.now.theorem c.theorem_of-lemma.ensures.theorem in
    let later : c.expanded.new.recorder.theory ≡ theory = c.in_ok-redex.ensures.continues.theory in
    let function_known = subst (λ (th : Theory). IsKnown th (image function) (predicate at.parts.ty)) (sym later) (predicate_known theory formula function binder body witness instance at) in
    let witness_known = subst (λ (th : Theory). IsKnown th (image witness) at.parts.ty) (sym later) at.witness_known in
    let premise_shows = subst (λ (t : Nameless). Shows c.in_ok-redex.redex.theorem (images premise) t)
    (sym (redex-at theory formula function binder body witness instance at)) (c.in_ok-redex.ensures.derives (record { formula = formula; body = body; witnessed = at })) in
    let answer = subst (λ (t : Nameless). Shows c.in_ok-answer.answer.theorem (images premise) t) (formula-at theory formula function binder body witness instance at)
    (c.in_ok-answer.ensures.derives at.parts.ty function_known witness_known (images premise) applied (over_predicate exists_name) shows premise_shows) in
    derives-where (nameless_within_limits (nameless_equation bool_type (image formula) (image formula))) fits c.named_same.result (images premise)
    (image formula) (exists-names-within theory formula function binder body witness instance at)
    (c.named_same.ensures.derives (images premise) answer)
