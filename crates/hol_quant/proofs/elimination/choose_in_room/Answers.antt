use Rattle.std.proofs.Common.{◌≡◌, ◌∙◌, ◌++◌, Ok, Err, IfOk, ap, subst, sym}
use Rattle.hol_model.specs.Terms.HolType.{bool_type}
use Rattle.hol_model.specs.Terms.NamedTerm.{NamedTerm}
use Rattle.hol_model.specs.Terms.Nameless.{Nameless, image}
use Rattle.hol_model.specs.Logic.Theory.{Theory, IsKnown}
use Rattle.hol_model.specs.Logic.Logic as nameless
use Rattle.hol_model.specs.Logic.Logic.{exists_name, predicate}
use Rattle.hol_model.specs.Logic.Derivable.{without, nameless_equation}
use Rattle.hol_model.specs.Derived.DerivedRules.{images}
use Rattle.hol_equal.specs.Conversions.{closed}
use Rattle.hol_equal.specs.Formulas.{IsFormula}
use Rattle.hol_equal.specs.Room.{FitsIf}
use Rattle.hol_equal.specs.Sequents.{Shows, DerivesIf}
use Rattle.hol_equal.proofs.CutLemmas.{shows-itself}
use Rattle.hol_bool.proofs.PreludeSteps.{still_logical}
use Rattle.hol_equal.proofs.Sizes.{past-room}
use Rattle.hol_quant.specs.PredicateLemmas.{over_predicate, eliminated, at_formula, formula_lemma_fits}
use Rattle.hol_quant.specs.Universals.{for_all, IsKnownVariable, MayGeneralize}
use Rattle.hol_quant.specs.Witnesses.{suffices}
use Rattle.hol_quant.proofs.PreludeParts.{exists-shows}
use Rattle.hol_quant.proofs.ChooseLemmas.{witness, argument-known, function-known, room, formula-at, eliminates-at, for_all-is, for_all-fits, implied-fits, cases-fit}
use Rattle.hol_quant.proofs.ChooseAnswers.{sufficient-at, derives-set}
use Rattle.hol_equal.proofs.StepLemmas.{passed_on}
use Rattle.hol_quant.proofs.elimination.choose_in_room.Goals as goal

pub returns-in_err-sufficient-clause-derives : goal.returns-in_err-sufficient-clause-derives
returns-in_err-sufficient-clause-derives c choice =
    rw (passed_on c.from_residual.result c.in_err-sufficient.field-0.0 c.from_residual.ensures.1) (
    c.in_err-sufficient.ensures.derives choice.at)

pub returns-in_err-always-clause-derives : goal.returns-in_err-always-clause-derives
returns-in_err-always-clause-derives c choice =
    rw (passed_on c.from_residual-in_err-always.result c.in_err-always.field-0.0 c.from_residual-in_err-always.ensures.1) (
    let theory = c.args.recorder.now.theory in
    let function = c.args.function.now in
    let binder = c.args.binder.now in
    let argument = c.args.argument.now in
    let second = c.args.second.now.theorem in
    let at = choice.at in
    let q = second.conclusion in
    let sufficient = c.in_ok-sufficient.sufficient.theorem in
    let others = without (witness theory function binder argument at) (images second) in
    let enough = sufficient-at theory function binder argument at q others sufficient c.conclusion_of-formula.ensures.formula.typed choice.fresh (c.in_ok-sufficient.ensures.derives at) in
    c.in_err-always.ensures.derives at.other at.ty (room theory function binder argument at q)
    (subst (λ (th : Theory). MayGeneralize th sufficient argument at.other at.ty) (sym c.in_ok-sufficient.ensures.continues.theory) enough.may)
    (for_all-fits theory function binder argument at q sufficient.conclusion enough.typed enough.is))

pub implied_by_redex-requires-clause-at : goal.implied_by_redex-requires-clause-at
implied_by_redex-requires-clause-at c = c.requires.choice.at

pub gen_in_room-requires-clause-variable : goal.gen_in_room-requires-clause-variable
gen_in_room-requires-clause-variable c =
    let at = c.requires.choice.at in
    subst (λ (th : Theory). IsKnownVariable th c.args.argument.now) (sym c.in_ok-sufficient.ensures.continues.theory)
    (record { name = at.other; ty = at.ty; is = at.argument_is; known = at.type_known })

pub by_formula_lemma-requires-clause-formula : goal.by_formula_lemma-requires-clause-formula
by_formula_lemma-requires-clause-formula c =
    let later : c.gen_in_room.new.recorder.theory ≡ c.args.recorder.now.theory =
    c.in_ok-always.ensures.continues.theory ∙ c.in_ok-sufficient.ensures.continues.theory in
    subst (λ (t : NamedTerm). IsFormula c.gen_in_room.new.recorder.theory t) (sym c.conclusion_of-formula.ensures.value)
    (subst (λ (th : Theory). IsFormula th c.args.second.now.theorem.conclusion) (sym later) c.conclusion_of-formula.ensures.formula)

pub by_formula_lemma-requires-clause-fits : goal.by_formula_lemma-requires-clause-fits
by_formula_lemma-requires-clause-fits c =
    let theory = c.args.recorder.now.theory in
    let function = c.args.function.now in
    let binder = c.args.binder.now in
    let argument = c.args.argument.now in
    let choice = c.requires.choice in
    let at = choice.at in
    let later : c.gen_in_room.new.recorder.theory ≡ theory = c.in_ok-always.ensures.continues.theory ∙ c.in_ok-sufficient.ensures.continues.theory in
    record {
      ty = at.ty;
      function_known = subst (λ (th : Theory). IsKnown th (image function) (predicate at.ty)) (sym later) (function-known theory function binder argument at);
      element_known = subst (λ (th : Theory). IsKnown th (image argument) at.ty) (sym later) (argument-known theory function binder argument at);
      hypothesis = over_predicate exists_name;
      conclusion = eliminated;
      lemma_shows = exists-shows c.theorem_of-lemma.result.now.theorem c.theorem_of-lemma.ensures.theorem;
      premise_is = choice.first_is ∙ sym (formula-at theory function binder argument at c.conclusion_of-formula.result.now);
    }

pub returns-in_err-cases-clause-derives : goal.returns-in_err-cases-clause-derives
returns-in_err-cases-clause-derives c choice =
    rw (passed_on c.from_residual-in_err-cases.result c.in_err-cases.field-0.0 c.from_residual-in_err-cases.ensures.1) (
    let theory = c.args.recorder.now.theory in
    let function = c.args.function.now in
    let binder = c.args.binder.now in
    let argument = c.args.argument.now in
    let first = c.args.first.now.theorem in
    let second = c.args.second.now.theorem in
    let at = choice.at in
    let q = second.conclusion in
    let sufficient = c.in_ok-sufficient.sufficient.theorem in
    let others = without (witness theory function binder argument at) (images second) in
    let enough = sufficient-at theory function binder argument at q others sufficient c.conclusion_of-formula.ensures.formula.typed choice.fresh (c.in_ok-sufficient.ensures.derives at) in
    let later : c.gen_in_room.new.recorder.theory ≡ theory = c.in_ok-always.ensures.continues.theory ∙ c.in_ok-sufficient.ensures.continues.theory in
    let function_there = subst (λ (th : Theory). IsKnown th (image function) (predicate at.ty)) (sym later) (function-known theory function binder argument at) in
    let argument_there = subst (λ (th : Theory). IsKnown th (image argument) at.ty) (sym later) (argument-known theory function binder argument at) in
    let formula_there = subst (λ (t : NamedTerm). IsFormula c.gen_in_room.new.recorder.theory t) (sym c.conclusion_of-formula.ensures.value)
    (subst (λ (th : Theory). IsFormula th q) (sym later) c.conclusion_of-formula.ensures.formula) in
    let premise = subst (λ (t : NamedTerm). Shows first (images first) (at_formula at.ty function t (over_predicate exists_name))) (sym c.conclusion_of-formula.ensures.value)
    (subst (λ (t : Nameless). Shows first (images first) t) (choice.first_is ∙ sym (formula-at theory function binder argument at q)) (shows-itself first)) in
    past-room c.in_err-cases.field-0.0 (formula_lemma_fits at.ty function q (over_predicate exists_name) eliminated) (room theory function binder argument at q)
    (subst (λ (t : NamedTerm). DerivesIf (formula_lemma_fits at.ty function t (over_predicate exists_name) eliminated)
    (Err c.in_err-cases.field-0.0) (images first) (at_formula at.ty function t eliminated)) c.conclusion_of-formula.ensures.value
    (c.in_err-cases.ensures.derives at.ty function_there argument_there formula_there (images first)
    (over_predicate exists_name) eliminated (exists-shows c.theorem_of-lemma.result.now.theorem c.theorem_of-lemma.ensures.theorem) premise))
    (cases-fit theory function binder argument at q sufficient.conclusion enough.typed enough.is enough.fresh enough.fresh_q))

pub mp_known-requires-clause-logic : goal.mp_known-requires-clause-logic
mp_known-requires-clause-logic c =
    let logic = c.args.logic.now in
    still_logical c.gen_in_room.new.recorder c.by_formula_lemma.new.recorder (Ok c.in_ok-cases.cases) logic c.in_ok-cases.ensures.continues
    (still_logical c.implied_by_redex.new.recorder c.gen_in_room.new.recorder (Ok c.in_ok-always.always) logic c.in_ok-always.ensures.continues
    (still_logical c.args.recorder.now c.implied_by_redex.new.recorder (Ok c.in_ok-sufficient.sufficient) logic c.in_ok-sufficient.ensures.continues c.requires.logic))

pub mp_known-requires-clause-fits : goal.mp_known-requires-clause-fits
mp_known-requires-clause-fits c =
    let theory = c.args.recorder.now.theory in
    let function = c.args.function.now in
    let binder = c.args.binder.now in
    let argument = c.args.argument.now in
    let first = c.args.first.now.theorem in
    let second = c.args.second.now.theorem in
    let choice = c.requires.choice in
    let at = choice.at in
    let q = second.conclusion in
    let formula = c.conclusion_of-formula.result.now in
    let formula_is : formula ≡ q = c.conclusion_of-formula.ensures.value in
    let sufficient = c.in_ok-sufficient.sufficient.theorem in
    let others = without (witness theory function binder argument at) (images second) in
    let enough = sufficient-at theory function binder argument at q others sufficient c.conclusion_of-formula.ensures.formula.typed choice.fresh (c.in_ok-sufficient.ensures.derives at) in
    let here = closed at.name at.ty at.body in
    let always : Shows c.in_ok-always.always.theorem (images sufficient) (for_all at.other at.ty sufficient.conclusion) =
    c.in_ok-always.ensures.derives at.other at.ty (room theory function binder argument at q)
    (subst (λ (th : Theory). MayGeneralize th sufficient argument at.other at.ty) (sym c.in_ok-sufficient.ensures.continues.theory) enough.may)
    (for_all-fits theory function binder argument at q sufficient.conclusion enough.typed enough.is) in
    let always_is : image c.in_ok-always.always.theorem.conclusion ≡ suffices at.ty here (image q) =
    always.concludes ∙ for_all-is theory function binder argument at q sufficient.conclusion enough.is enough.fresh enough.fresh_q in
    let later : c.gen_in_room.new.recorder.theory ≡ theory = c.in_ok-always.ensures.continues.theory ∙ c.in_ok-sufficient.ensures.continues.theory in
    let function_there = subst (λ (th : Theory). IsKnown th (image function) (predicate at.ty)) (sym later) (function-known theory function binder argument at) in
    let argument_there = subst (λ (th : Theory). IsKnown th (image argument) at.ty) (sym later) (argument-known theory function binder argument at) in
    let formula_there = subst (λ (t : NamedTerm). IsFormula c.gen_in_room.new.recorder.theory t) (sym formula_is)
    (subst (λ (th : Theory). IsFormula th q) (sym later) c.conclusion_of-formula.ensures.formula) in
    let premise = subst (λ (t : Nameless). Shows first (images first) t) (choice.first_is ∙ sym (formula-at theory function binder argument at formula)) (shows-itself first) in
    let cases : Shows c.in_ok-cases.cases.theorem (images first) (at_formula at.ty function formula eliminated) =
    c.in_ok-cases.ensures.derives at.ty function_there argument_there formula_there (images first)
    (over_predicate exists_name) eliminated (exists-shows c.theorem_of-lemma.result.now.theorem c.theorem_of-lemma.ensures.theorem) premise in
    cases.concludes ∙ eliminates-at theory function binder argument at formula
    ∙ (λ i. nameless.implication (suffices at.ty here (image (formula_is i))) (image formula))
    ∙ ap (λ (t : Nameless). nameless.implication t (image formula)) (sym always_is)

pub returns-clause-names : goal.returns-clause-names
returns-clause-names c = subst (λ (t : NamedTerm). IfOk c.mp_known.result (λ made. made.theorem.conclusion ≡ t)) c.conclusion_of-formula.ensures.value c.mp_known.ensures.names

pub returns-clause-derives : goal.returns-clause-derives
returns-clause-derives c choice =
    let theory = c.args.recorder.now.theory in
    let function = c.args.function.now in
    let binder = c.args.binder.now in
    let argument = c.args.argument.now in
    let first = c.args.first.now.theorem in
    let second = c.args.second.now.theorem in
    let at = choice.at in
    let q = second.conclusion in
    let sufficient = c.in_ok-sufficient.sufficient.theorem in
    let others = without (witness theory function binder argument at) (images second) in
    let enough = sufficient-at theory function binder argument at q others sufficient c.conclusion_of-formula.ensures.formula.typed choice.fresh (c.in_ok-sufficient.ensures.derives at) in
    let fits = room theory function binder argument at q in
    let here = closed at.name at.ty at.body in
    let always = subst (λ (t : Nameless). Shows c.in_ok-always.always.theorem (images sufficient) t)
    (for_all-is theory function binder argument at q sufficient.conclusion enough.is enough.fresh enough.fresh_q)
    (c.in_ok-always.ensures.derives at.other at.ty fits
    (subst (λ (th : Theory). MayGeneralize th sufficient argument at.other at.ty) (sym c.in_ok-sufficient.ensures.continues.theory) enough.may)
    (for_all-fits theory function binder argument at q sufficient.conclusion enough.typed enough.is)) in
    let later : c.gen_in_room.new.recorder.theory ≡ theory = c.in_ok-always.ensures.continues.theory ∙ c.in_ok-sufficient.ensures.continues.theory in
    let function_there = subst (λ (th : Theory). IsKnown th (image function) (predicate at.ty)) (sym later) (function-known theory function binder argument at) in
    let argument_there = subst (λ (th : Theory). IsKnown th (image argument) at.ty) (sym later) (argument-known theory function binder argument at) in
    let formula_there = subst (λ (t : NamedTerm). IsFormula c.gen_in_room.new.recorder.theory t) (sym c.conclusion_of-formula.ensures.value)
    (subst (λ (th : Theory). IsFormula th q) (sym later) c.conclusion_of-formula.ensures.formula) in
    let premise = subst (λ (t : NamedTerm). Shows first (images first) (at_formula at.ty function t (over_predicate exists_name))) (sym c.conclusion_of-formula.ensures.value)
    (subst (λ (t : Nameless). Shows first (images first) t) (choice.first_is ∙ sym (formula-at theory function binder argument at q)) (shows-itself first)) in
    let by_lemma = subst (λ (t : NamedTerm). Shows c.in_ok-cases.cases.theorem (images first) (at_formula at.ty function t eliminated)) c.conclusion_of-formula.ensures.value
    (c.in_ok-cases.ensures.derives at.ty function_there argument_there formula_there (images first)
    (over_predicate exists_name) eliminated (exists-shows c.theorem_of-lemma.result.now.theorem c.theorem_of-lemma.ensures.theorem) premise) in
    let cases = subst (λ (t : Nameless). Shows c.in_ok-cases.cases.theorem (images first) t) (eliminates-at theory function binder argument at q) by_lemma in
    let answer = subst (λ (t : NamedTerm).
    Shows c.in_ok-cases.cases.theorem (images first) (nameless.implication (suffices at.ty here (image q)) (image t))
    → FitsIf fits (nameless_equation bool_type (nameless.implication (suffices at.ty here (image q)) (image t)) (image t))
    → DerivesIf fits c.mp_known.result (images sufficient ++ images first) (image t)) c.conclusion_of-formula.ensures.value
    (λ one room_for. c.mp_known.ensures.derives (images first) (images sufficient) (suffices at.ty here (image q)) fits one always room_for)
    cases (implied-fits theory function binder argument at q sufficient.conclusion enough.typed enough.is enough.fresh enough.fresh_q) in
    derives-set fits c.mp_known.result (images sufficient ++ images first) (images first ++ others) (image q) (enough.set (images first)) answer
