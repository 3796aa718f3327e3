use Rattle.std.proofs.Common.{◌≡◌, false, ◌∙◌, ap, subst, sym}
use Rattle.std.proofs.lemmas.Result.{err_from_is_err_and}
use Rattle.hol_model.specs.Terms.HolType.{bool_type}
use Rattle.hol_model.specs.Logic.Logic.{forall_name, predicate}
use Rattle.hol_model.specs.Terms.NamedTerm.{NamedTerm, abstraction}
use Rattle.hol_model.specs.Terms.Nameless.{Nameless, image}
use Rattle.hol_model.specs.Terms.Measures.{nameless_within_limits}
use Rattle.hol_model.specs.Logic.Theory.{Theory, IsKnown, IsKnownType}
use Rattle.hol_model.specs.Logic.Derivable.{nameless_equation}
use Rattle.hol_model.specs.Derived.DerivedRules.{images}
use Rattle.hol_equal.specs.Sequents.{Shows, DerivesIf}
use Rattle.hol_equal.proofs.CutLemmas.{derives-where}
use Rattle.hol_equal.proofs.Sizes.{past-room}
use Rattle.hol_quant.specs.PredicateLemmas.{is_always, over_predicate, at_predicate, lemma_fits}
use Rattle.hol_quant.specs.Universals.{for_all}
use Rattle.hol_quant.proofs.GenLemmas.{truth}
use Rattle.hol_quant.proofs.ForAllLemmas.{variable-known, binder-known, function-known, always, always-at, formula-at, body-fits, always-within, lemma-fits}
use Rattle.hol_quant.proofs.PreludeParts.{always-shows}
use Rattle.hol_quant.proofs.generalization.over_all.Goals as goal

pub returns-in_err-equal-clause-derives : goal.returns-in_err-equal-clause-derives
returns-in_err-equal-clause-derives c name ty room may function_is fits =
    let p = err_from_is_err_and c.from_residual.result c.from_residual.ensures.1 in
    rw (p.1, p.2) (
    let conclusion = c.args.premise.now.theorem.conclusion in
    c.in_err-equal.ensures.derives room (body-fits name ty conclusion room fits c.conclusion_of-formula.ensures.formula.typed)
    )

pub returns-in_err-always-clause-derives : goal.returns-in_err-always-clause-derives
returns-in_err-always-clause-derives c name ty room may function_is fits =
    let p = err_from_is_err_and c.from_residual-in_err-always.result c.from_residual-in_err-always.ensures.1 in
    rw (p.1, p.2) (
    let premise = c.args.premise.now.theorem in
    let p = premise.conclusion in
    let equal = c.in_ok-equal.ensures.derives room (body-fits name ty p room fits c.conclusion_of-formula.ensures.formula.typed) in
    let knows = subst (λ (th : Theory). IsKnownType th ty) (sym c.in_ok-equal.ensures.continues.theory) may.type_known in
    past-room _ (nameless_within_limits (always name ty p)) room
    (c.in_err-always.ensures.derives (images premise) name ty bool_type (image p) truth (ap image may.binder_is) knows may.fresh equal) (always-within name ty p room fits)
    )

pub by_predicate_lemma-requires-clause-fits : goal.by_predicate_lemma-requires-clause-fits
by_predicate_lemma-requires-clause-fits c =
    let theory = c.args.recorder.now.theory in
    let p = c.args.premise.now.theorem.conclusion in
    let binder = c.args.binder.now in
    let function = c.args.function.now in
    let equal = c.in_ok-equal.equal.theorem in
    let always_made = c.in_ok-always.always.theorem in
    let formula = c.conclusion_of-formula.ensures.formula in
    let at = c.requires.function in
    let later : c.abs.new.recorder.theory ≡ theory = c.in_ok-always.ensures.continues.theory ∙ c.in_ok-equal.ensures.continues.theory in
    let function_there = subst (λ (f : NamedTerm). IsKnown theory (image f) (predicate at.ty)) (sym at.function_is) (function-known at.name at.ty p theory at.type_known formula.known) in
    let equal_shows : Shows equal (images c.args.premise.now.theorem) (nameless_equation bool_type (image p) truth) = c.in_ok-equal.ensures.derives false (λ is. cc) in
    let concludes = c.in_ok-always.ensures.concludes at.name at.ty bool_type (image p) truth (ap image at.binder_is) equal_shows.concludes in
    record {
      ty = at.ty;
      function_known = subst (λ (th : Theory). IsKnown th (image function) (predicate at.ty)) (sym later) function_there;
      element_known = subst (λ (th : Theory). IsKnown th (image binder) at.ty) (sym later) (variable-known theory binder at.name at.ty at.binder_is at.type_known);
      hypothesis = is_always;
      conclusion = over_predicate forall_name;
      lemma_shows = always-shows c.theorem_of-lemma.result.now.theorem c.theorem_of-lemma.ensures.theorem;
      premise_is = concludes ∙ sym (ap (λ f. at_predicate at.ty f binder is_always) at.function_is ∙ always-at at.name at.ty p binder);
    }

pub returns-clause-derives : goal.returns-clause-derives
returns-clause-derives c name ty room may function_is fits =
    let premise = c.args.premise.now.theorem in
    let p = premise.conclusion in
    let theory = c.args.recorder.now.theory in
    let binder = c.args.binder.now in
    let made = abstraction name ty p in
    let equal = c.in_ok-equal.ensures.derives room (body-fits name ty p room fits c.conclusion_of-formula.ensures.formula.typed) in
    let knows = subst (λ (th : Theory). IsKnownType th ty) (sym c.in_ok-equal.ensures.continues.theory) may.type_known in
    let always_shows = c.in_ok-always.ensures.derives (images premise) name ty bool_type (image p) truth (ap image may.binder_is) knows may.fresh equal in
    let later : c.abs.new.recorder.theory ≡ theory = c.in_ok-always.ensures.continues.theory ∙ c.in_ok-equal.ensures.continues.theory in
    let function_there = subst (λ (th : Theory). IsKnown th (image c.args.function.now) (predicate ty)) (sym later)
    (subst (λ (f : NamedTerm). IsKnown theory (image f) (predicate ty)) (sym function_is) (function-known name ty p theory may.type_known c.conclusion_of-formula.ensures.formula.known)) in
    let binder_there = subst (λ (th : Theory). IsKnown th (image binder) ty) (sym later) (binder-known theory premise binder name ty may) in
    let premise_shows = subst (λ (f : NamedTerm). Shows c.in_ok-always.always.theorem (images premise) (at_predicate ty f binder is_always)) (sym function_is)
    (subst (λ (t : Nameless). Shows c.in_ok-always.always.theorem (images premise) t) (sym (always-at name ty p binder)) always_shows) in
    let answer = c.by_predicate_lemma.ensures.derives ty function_there binder_there (images premise) is_always (over_predicate forall_name) (always-shows c.theorem_of-lemma.result.now.theorem c.theorem_of-lemma.ensures.theorem) premise_shows in
    let at_abstraction = subst (λ (f : NamedTerm).
    DerivesIf (lemma_fits ty f binder is_always (over_predicate forall_name)) c.by_predicate_lemma.result (images premise)
    (at_predicate ty f binder (over_predicate forall_name))) function_is answer in
    derives-where (lemma_fits ty made binder is_always (over_predicate forall_name)) room c.by_predicate_lemma.result (images premise) (for_all name ty p) (lemma-fits name ty p room fits binder)
    (subst (λ (t : Nameless). DerivesIf (lemma_fits ty made binder is_always (over_predicate forall_name)) c.by_predicate_lemma.result (images premise) t) (formula-at name ty p binder) at_abstraction)
