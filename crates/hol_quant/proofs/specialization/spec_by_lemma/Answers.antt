use Rattle.std.proofs.Common.{◌≡◌, [], subst, sym, None, Err}
use Rattle.std.specs.List.{list_all}
use Rattle.hol_model.specs.Terms.HolType.{bool_type}
use Rattle.hol_model.specs.Logic.Logic.{forall_name, predicate}
use Rattle.hol_model.specs.Terms.NamedTerm.{combination, abstraction}
use Rattle.hol_model.specs.Terms.Nameless.{Nameless, app, image}
use Rattle.hol_model.specs.Logic.Theory.{Theory, IsKnown}
use Rattle.hol_model.specs.Kernel.Rules.{first_unknown}
use Rattle.hol_model.specs.Derived.DerivedRules.{images, is_roomy}
use Rattle.hol_model.proofs.Terms.Images.{image-abstraction}
use Rattle.hol_model.proofs.Logic.Known.{app-known}
use Rattle.hol_kernel.proofs.RuleLemmas.{known_term}
use Rattle.hol_journal.proofs.GrowthLemmas.{journals-grow}
use Rattle.hol_equal.specs.Sequents.{Shows}
use Rattle.hol_equal.specs.Conversions.{closed, conversion_fits}
use Rattle.hol_equal.proofs.StepLemmas.{no_unknown, eq_mp-fits}
use Rattle.hol_equal.proofs.Sizes.{past-room}
use Rattle.hol_equal.proofs.CutLemmas.{shows-itself, given-derives}
use Rattle.hol_quant.specs.PredicateLemmas.{applied, over_predicate, lemma_fits}
use Rattle.hol_quant.proofs.SpecLemmas.{spec-start, small, specialized_body, spec-answers, spec-refused, function_image, premise-at, redex-at, spec-lemma-within, spec-conversion-within}
use Rattle.hol_equal.proofs.StepLemmas.{passed_on}
use Rattle.hol_bool.proofs.Passing.{unchanged}
use Rattle.hol_quant.proofs.specialization.spec_by_lemma.Goals as goal

pub returns-in_err-pass_known-clause-outcome : goal.returns-in_err-pass_known-clause-outcome
returns-in_err-pass_known-clause-outcome c =
    rw (passed_on c.from_residual.result c.in_err-pass_known.field-0.0 c.from_residual.ensures.1) (
    let journal = c.args.recorder.now in
    let theory = journal.theory in
    let term = c.args.term.now in
    let premise = c.args.premise.now.theorem in
    let function = c.in-Some.parts.predicate.now in
    let binder = c.in-Some.parts.binder.now in
    let body = c.in-Some.parts.body.now in
    let start =
    spec-start journal c.theory_is_legal.ensures c.args.premise.now c.requires.premise c.thm.result.now c.thm.ensures c.concl-formula.ensures.theorem c.requires.generic term c.concl-formula.result.now
    c.in-Some.parts.quantifier.now function binder body c.concl-formula.ensures.value c.in-Some.ensures.whole c.in-Some.ensures.named c.in-Some.ensures.abstraction
    c.ty.result.now c.ty-2.result.now c.ty.ensures c.ty-2.ensures (c.eq.ensures.same.0 c.if-not-eq.false) in
    let at = start.at in
    spec-refused theory term premise function binder body at start.typed c.in_err-pass_known.field-0.0 c.in_err-pass_known.ensures.err)

pub returns-in_err-pass_known-clause-continues : goal.returns-in_err-pass_known-clause-continues
returns-in_err-pass_known-clause-continues c = unchanged c.args.recorder.now c.from_residual.result c.from_residual.ensures.0

pub returns-in_err-redex-clause-outcome : goal.returns-in_err-redex-clause-outcome
returns-in_err-redex-clause-outcome c =
    rw (passed_on c.from_residual-in_err-redex.result c.in_err-redex.field-0.0 c.from_residual-in_err-redex.ensures.1) (
    let journal = c.args.recorder.now in
    let theory = journal.theory in
    let term = c.args.term.now in
    let premise = c.args.premise.now.theorem in
    let function = c.in-Some.parts.predicate.now in
    let binder = c.in-Some.parts.binder.now in
    let body = c.in-Some.parts.body.now in
    let start =
    spec-start journal c.theory_is_legal.ensures c.args.premise.now c.requires.premise c.thm.result.now c.thm.ensures c.concl-formula.ensures.theorem c.requires.generic term c.concl-formula.result.now
    c.in-Some.parts.quantifier.now function binder body c.concl-formula.ensures.value c.in-Some.ensures.whole c.in-Some.ensures.named c.in-Some.ensures.abstraction
    c.ty.result.now c.ty-2.result.now c.ty.ensures c.ty-2.ensures (c.eq.ensures.same.0 c.if-not-eq.false) in
    let at = start.at in
    let none = c.in_ok-pass_known.ensures.ok in
    let fits = list_all is_roomy (small theory term premise function binder body at start.typed) in
    let term_known = known_term theory term at.ty none start.typed in
    let function_known = subst (λ (t : Nameless). IsKnown theory t (predicate at.ty)) (sym (function_image theory term premise function binder body at start.typed)) at.function_known in
    let premise_shows = subst (λ (t : Nameless). Shows premise (images premise) t) (sym (premise-at theory term premise function binder body at start.typed)) (shows-itself premise) in
    let fault = c.in_err-redex.field-0.0 in
    spec-answers theory term premise function binder body at start.typed (Err fault) none
    (past-room fault (lemma_fits at.ty function term (over_predicate forall_name) applied) fits
    (c.in_err-redex.ensures.derives at.ty function_known term_known (images premise) (over_predicate forall_name) applied c.requires.shows premise_shows)
    (spec-lemma-within theory term premise function binder body at start.typed)))

pub by_predicate_lemma-requires-clause-fits : goal.by_predicate_lemma-requires-clause-fits
by_predicate_lemma-requires-clause-fits c =
    let journal = c.args.recorder.now in
    let theory = journal.theory in
    let term = c.args.term.now in
    let premise = c.args.premise.now.theorem in
    let function = c.in-Some.parts.predicate.now in
    let binder = c.in-Some.parts.binder.now in
    let body = c.in-Some.parts.body.now in
    let start =
    spec-start journal c.theory_is_legal.ensures c.args.premise.now c.requires.premise c.thm.result.now c.thm.ensures c.concl-formula.ensures.theorem c.requires.generic term c.concl-formula.result.now
    c.in-Some.parts.quantifier.now function binder body c.concl-formula.ensures.value c.in-Some.ensures.whole c.in-Some.ensures.named c.in-Some.ensures.abstraction
    c.ty.result.now c.ty-2.result.now c.ty.ensures c.ty-2.ensures (c.eq.ensures.same.0 c.if-not-eq.false) in
    let at = start.at in
    let none = c.in_ok-pass_known.ensures.ok in
    record {
      ty = at.ty;
      function_known = subst (λ (t : Nameless). IsKnown theory t (predicate at.ty)) (sym (function_image theory term premise function binder body at start.typed)) at.function_known;
      element_known = known_term theory term at.ty none start.typed;
      hypothesis = over_predicate forall_name;
      conclusion = applied;
      lemma_shows = c.requires.shows;
      premise_is = sym (premise-at theory term premise function binder body at start.typed);
    }

pub converted_known-requires : goal.converted_known-requires
converted_known-requires c =
    let journal = c.args.recorder.now in
    let theory = journal.theory in
    let term = c.args.term.now in
    let premise = c.args.premise.now.theorem in
    let function = c.in-Some.parts.predicate.now in
    let binder = c.in-Some.parts.binder.now in
    let body = c.in-Some.parts.body.now in
    let start =
    spec-start journal c.theory_is_legal.ensures c.args.premise.now c.requires.premise c.thm.result.now c.thm.ensures c.concl-formula.ensures.theorem c.requires.generic term c.concl-formula.result.now
    c.in-Some.parts.quantifier.now function binder body c.concl-formula.ensures.value c.in-Some.ensures.whole c.in-Some.ensures.named c.in-Some.ensures.abstraction
    c.ty.result.now c.ty-2.result.now c.ty.ensures c.ty-2.ensures (c.eq.ensures.same.0 c.if-not-eq.false) in
    let at = start.at in
    let none = c.in_ok-pass_known.ensures.ok in
    let term_known = known_term theory term at.ty none start.typed in
    let later : c.by_predicate_lemma.new.recorder.theory ≡ theory = c.in_ok-redex.ensures.continues.theory in
    let redex_none = subst (λ (th : Theory). first_unknown th (combination (abstraction at.name at.ty body) term) ≡ None) (sym later)
    (no_unknown theory (combination (abstraction at.name at.ty body) term) bool_type
    (subst (λ (t : Nameless). IsKnown theory (app t (image term)) bool_type) (sym (image-abstraction at.name at.ty body))
    (app-known theory at.ty bool_type (closed at.name at.ty body) (image term) at.function_known term_known))) in
    record {
      name = at.name;
      ty = at.ty;
      codomain = bool_type;
      body = body;
      function_is = at.function_is;
      binder_is = at.binder_is;
      body_typed = at.body_typed;
      argument_typed = start.typed;
      known = redex_none;
    }

pub returns-in_err-equation-clause-outcome : goal.returns-in_err-equation-clause-outcome
returns-in_err-equation-clause-outcome c =
    rw (passed_on c.from_residual-in_err-equation.result c.in_err-equation.field-0.0 c.from_residual-in_err-equation.ensures.1) (
    let journal = c.args.recorder.now in
    let theory = journal.theory in
    let term = c.args.term.now in
    let premise = c.args.premise.now.theorem in
    let function = c.in-Some.parts.predicate.now in
    let binder = c.in-Some.parts.binder.now in
    let body = c.in-Some.parts.body.now in
    let start =
    spec-start journal c.theory_is_legal.ensures c.args.premise.now c.requires.premise c.thm.result.now c.thm.ensures c.concl-formula.ensures.theorem c.requires.generic term c.concl-formula.result.now
    c.in-Some.parts.quantifier.now function binder body c.concl-formula.ensures.value c.in-Some.ensures.whole c.in-Some.ensures.named c.in-Some.ensures.abstraction
    c.ty.result.now c.ty-2.result.now c.ty.ensures c.ty-2.ensures (c.eq.ensures.same.0 c.if-not-eq.false) in
    let at = start.at in
    let none = c.in_ok-pass_known.ensures.ok in
    let fits = list_all is_roomy (small theory term premise function binder body at start.typed) in
    let term_known = known_term theory term at.ty none start.typed in
    let function_known = subst (λ (t : Nameless). IsKnown theory t (predicate at.ty)) (sym (function_image theory term premise function binder body at start.typed)) at.function_known in
    let premise_shows = subst (λ (t : Nameless). Shows premise (images premise) t) (sym (premise-at theory term premise function binder body at start.typed)) (shows-itself premise) in
    let redex = subst (λ (t : Nameless). Shows c.in_ok-redex.redex.theorem (images premise) t) (redex-at theory term premise function binder body at start.typed)
    (c.in_ok-redex.ensures.derives at.ty function_known term_known (images premise) (over_predicate forall_name) applied c.requires.shows premise_shows) in
    let later : c.by_predicate_lemma.new.recorder.theory ≡ theory = c.in_ok-redex.ensures.continues.theory in
    let redex_none = subst (λ (th : Theory). first_unknown th (combination (abstraction at.name at.ty body) term) ≡ None) (sym later)
    (no_unknown theory (combination (abstraction at.name at.ty body) term) bool_type
    (subst (λ (t : Nameless). IsKnown theory (app t (image term)) bool_type) (sym (image-abstraction at.name at.ty body))
    (app-known theory at.ty bool_type (closed at.name at.ty body) (image term) at.function_known term_known))) in
    let fault = c.in_err-equation.field-0.0 in
    spec-answers theory term premise function binder body at start.typed (Err fault) none
    (past-room fault (conversion_fits at.name at.ty bool_type body term) fits
    (c.in_err-equation.ensures.derives at.name at.ty bool_type body at.function_is at.binder_is at.body_typed start.typed redex_none)
    (spec-conversion-within theory term premise function binder body at start.typed)))

pub eq_mp_known-requires-clause-second : goal.eq_mp_known-requires-clause-second
eq_mp_known-requires-clause-second c =
    journals-grow.stays c.by_predicate_lemma.new.recorder c.converted_known.new.recorder c.in_ok-redex.redex c.in_ok-equation.ensures.continues.grown c.in_ok-redex.ensures.continues.held.made

pub eq_mp_known-requires-clause-fits : goal.eq_mp_known-requires-clause-fits
eq_mp_known-requires-clause-fits c =
    let journal = c.args.recorder.now in
    let theory = journal.theory in
    let term = c.args.term.now in
    let premise = c.args.premise.now.theorem in
    let function = c.in-Some.parts.predicate.now in
    let binder = c.in-Some.parts.binder.now in
    let body = c.in-Some.parts.body.now in
    let start =
    spec-start journal c.theory_is_legal.ensures c.args.premise.now c.requires.premise c.thm.result.now c.thm.ensures c.concl-formula.ensures.theorem c.requires.generic term c.concl-formula.result.now
    c.in-Some.parts.quantifier.now function binder body c.concl-formula.ensures.value c.in-Some.ensures.whole c.in-Some.ensures.named c.in-Some.ensures.abstraction
    c.ty.result.now c.ty-2.result.now c.ty.ensures c.ty-2.ensures (c.eq.ensures.same.0 c.if-not-eq.false) in
    let at = start.at in
    let none = c.in_ok-pass_known.ensures.ok in
    let fits = list_all is_roomy (small theory term premise function binder body at start.typed) in
    let term_known = known_term theory term at.ty none start.typed in
    let function_known = subst (λ (t : Nameless). IsKnown theory t (predicate at.ty)) (sym (function_image theory term premise function binder body at start.typed)) at.function_known in
    let premise_shows = subst (λ (t : Nameless). Shows premise (images premise) t) (sym (premise-at theory term premise function binder body at start.typed)) (shows-itself premise) in
    let redex = subst (λ (t : Nameless). Shows c.in_ok-redex.redex.theorem (images premise) t) (redex-at theory term premise function binder body at start.typed)
    (c.in_ok-redex.ensures.derives at.ty function_known term_known (images premise) (over_predicate forall_name) applied c.requires.shows premise_shows) in
    let later : c.by_predicate_lemma.new.recorder.theory ≡ theory = c.in_ok-redex.ensures.continues.theory in
    let redex_none = subst (λ (th : Theory). first_unknown th (combination (abstraction at.name at.ty body) term) ≡ None) (sym later)
    (no_unknown theory (combination (abstraction at.name at.ty body) term) bool_type
    (subst (λ (t : Nameless). IsKnown theory (app t (image term)) bool_type) (sym (image-abstraction at.name at.ty body)) (app-known theory at.ty bool_type
    (closed at.name at.ty body) (image term) at.function_known term_known))) in
    let result = specialized_body theory term premise function binder body at start.typed in
    let equation = c.in_ok-equation.ensures.derives at.name at.ty bool_type body at.function_is at.binder_is at.body_typed start.typed redex_none in
    eq_mp-fits c.in_ok-equation.equation.theorem c.in_ok-redex.redex.theorem [] (images premise) (app (closed at.name at.ty body) (image term)) result equation redex

pub returns-clause-outcome : goal.returns-clause-outcome
returns-clause-outcome c =
    let journal = c.args.recorder.now in
    let theory = journal.theory in
    let term = c.args.term.now in
    let premise = c.args.premise.now.theorem in
    let function = c.in-Some.parts.predicate.now in
    let binder = c.in-Some.parts.binder.now in
    let body = c.in-Some.parts.body.now in
    let start =
    spec-start journal c.theory_is_legal.ensures c.args.premise.now c.requires.premise c.thm.result.now c.thm.ensures c.concl-formula.ensures.theorem c.requires.generic term c.concl-formula.result.now
    c.in-Some.parts.quantifier.now function binder body c.concl-formula.ensures.value c.in-Some.ensures.whole c.in-Some.ensures.named c.in-Some.ensures.abstraction
    c.ty.result.now c.ty-2.result.now c.ty.ensures c.ty-2.ensures (c.eq.ensures.same.0 c.if-not-eq.false) in
    let at = start.at in
    let none = c.in_ok-pass_known.ensures.ok in
    let fits = list_all is_roomy (small theory term premise function binder body at start.typed) in
    let term_known = known_term theory term at.ty none start.typed in
    let function_known = subst (λ (t : Nameless). IsKnown theory t (predicate at.ty)) (sym (function_image theory term premise function binder body at start.typed)) at.function_known in
    let premise_shows = subst (λ (t : Nameless). Shows premise (images premise) t) (sym (premise-at theory term premise function binder body at start.typed)) (shows-itself premise) in
    let redex = subst (λ (t : Nameless). Shows c.in_ok-redex.redex.theorem (images premise) t) (redex-at theory term premise function binder body at start.typed)
    (c.in_ok-redex.ensures.derives at.ty function_known term_known (images premise) (over_predicate forall_name) applied c.requires.shows premise_shows) in
    let later : c.by_predicate_lemma.new.recorder.theory ≡ theory = c.in_ok-redex.ensures.continues.theory in
    let redex_none = subst (λ (th : Theory). first_unknown th (combination (abstraction at.name at.ty body) term) ≡ None) (sym later)
    (no_unknown theory (combination (abstraction at.name at.ty body) term) bool_type
    (subst (λ (t : Nameless). IsKnown theory (app t (image term)) bool_type) (sym (image-abstraction at.name at.ty body))
    (app-known theory at.ty bool_type (closed at.name at.ty body) (image term) at.function_known term_known))) in
    let result = specialized_body theory term premise function binder body at start.typed in
    let equation = c.in_ok-equation.ensures.derives at.name at.ty bool_type body at.function_is at.binder_is at.body_typed start.typed redex_none in
    spec-answers theory term premise function binder body at start.typed c.eq_mp_known.result none
    (given-derives fits c.eq_mp_known.result (images premise) result (c.eq_mp_known.ensures.gives [] (images premise) (app (closed at.name at.ty body) (image term)) result equation redex))
