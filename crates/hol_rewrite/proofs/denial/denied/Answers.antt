use Rattle.std.proofs.Common.{◌≡◌, [], ◌∷◌, ◌++◌, ◌∙◌, sym, ap, subst, refl, List, Ok, Err}
use Rattle.hol_model.specs.Terms.HolType.{bool_type}
use Rattle.hol_model.specs.Terms.NamedTerm.{NamedTerm, equation}
use Rattle.hol_model.specs.Logic.NamedLogic.{false_term, implication}
use Rattle.hol_model.specs.Terms.Nameless.{Nameless, image}
use Rattle.hol_model.specs.Logic.Theory.{Theory}
use Rattle.hol_model.specs.Kernel.Theorem.{Theorem}
use Rattle.hol_model.specs.Terms.Measures.{nameless_within_limits}
use Rattle.hol_model.specs.Logic.Derivable.{IsSameSet, without, nameless_equation}
use Rattle.hol_model.specs.Derived.DerivedRules.{images, terms_of_theorem, not_elim_outcome, undisch_outcome, contr_outcome}
use Rattle.hol_equal.specs.Formulas.{IsFormula}
use Rattle.hol_bool.proofs.PreludeSteps.{still_logical}
use Rattle.hol_equal.proofs.StepLemmas.{still_made, passed_on}
use Rattle.hol_equal.proofs.CutLemmas.{shows-itself}
use Rattle.hol_equal.proofs.LemmaLemmas.{premise-fits}
use Rattle.hol_rewrite.specs.Rules.{are_small}
use Rattle.hol_rewrite.proofs.Steps.{stated-ok}
use Rattle.hol_rewrite.proofs.RoomSteps.{stated-past, derives-past, same_lists, not_elim_room, undisch_room, contr_room, deduct_room, cut_room}
use Rattle.hol_rewrite.proofs.Denying.{continues-twice, assumed-is, denied-at, not_elim-is, undisch-is, contr-is, on_the_way, under-denial, steps-show, denial-proved}
use Rattle.hol_rewrite.proofs.denial.denied.Goals as goal

pub assume_known-requires : goal.assume_known-requires
assume_known-requires c = subst (λ (t : NamedTerm). IsFormula c.args.recorder.now.theory t) (sym c.conclusion_of-denial.ensures.value) c.conclusion_of-denial.ensures.formula

pub assume_known-requires-2 : goal.assume_known-requires-2
assume_known-requires-2 c = subst (λ (t : NamedTerm). IsFormula c.undisch.new.recorder.theory t) (sym c.conclusion_of-false_term.ensures.value) c.conclusion_of-false_term.ensures.formula

pub not_elim-requires-clause-logic : goal.not_elim-requires-clause-logic
not_elim-requires-clause-logic c =
    let j0 = c.args.recorder.now in
    let logic = c.args.logic.now in
    let part = c.args.part.now in
    let premise = c.args.premise.now.theorem in
    let j1 = c.assume_known.new.recorder in
    let c1 = c.in_ok-assumed.ensures.continues in
    let l1 = still_logical j0 j1 (Ok c.in_ok-assumed.assumed) logic c1 c.requires.logic in
    l1

pub returns-in_err-implication-clause-err : goal.returns-in_err-implication-clause-err
returns-in_err-implication-clause-err c =
    let j0 = c.args.recorder.now in
    let logic = c.args.logic.now in
    let part = c.args.part.now in
    let premise = c.args.premise.now.theorem in
    let denied = denied-at j0 logic c.requires.logic c.conclusion_of-denial.ensures.legal premise.conclusion part c.requires.part c.conclusion_of-denial.ensures.formula in
    let assumed = c.in_ok-assumed.assumed.theorem in
    let assumed_is = assumed-is j0.theory c.conclusion_of-denial.result.now assumed c.in_ok-assumed.ensures.outcome in
    let denial_is = ap (λ (t : Theorem). t.conclusion) assumed_is ∙ c.conclusion_of-denial.ensures.value ∙ denied.is in
    let not_elim_is = not_elim-is assumed part denial_is in
    let assumed_hyps = ap images assumed_is ∙ ap (λ (t : NamedTerm). image t ∷ []) c.conclusion_of-denial.ensures.value in
    rw (passed_on c.from_residual-in_err-implication.result c.in_err-implication.field-0.0 c.from_residual-in_err-implication.ensures.1)
    (stated-past (Err c.in_err-implication.field-0.0) (terms_of_theorem assumed) (images assumed) (implication part false_term) (not_elim_outcome assumed) (are_small premise) not_elim_is
    (not_elim_room premise assumed part denied.is denial_is (same_lists (images assumed) (image premise.conclusion ∷ []) assumed_hyps)) c.in_err-implication.ensures.outcome)

pub undisch-requires-clause-logic : goal.undisch-requires-clause-logic
undisch-requires-clause-logic c =
    let j0 = c.args.recorder.now in
    let logic = c.args.logic.now in
    let part = c.args.part.now in
    let premise = c.args.premise.now.theorem in
    let j1 = c.assume_known.new.recorder in
    let c1 = c.in_ok-assumed.ensures.continues in
    let l1 = still_logical j0 j1 (Ok c.in_ok-assumed.assumed) logic c1 c.requires.logic in
    let j2 = c.not_elim.new.recorder in
    let c2 = c.in_ok-implication.ensures.continues in
    let l2 = still_logical j1 j2 (Ok c.in_ok-implication.implication) logic c2 l1 in
    l2

pub returns-in_err-falsity-clause-err : goal.returns-in_err-falsity-clause-err
returns-in_err-falsity-clause-err c =
    let j0 = c.args.recorder.now in
    let logic = c.args.logic.now in
    let part = c.args.part.now in
    let premise = c.args.premise.now.theorem in
    let denied = denied-at j0 logic c.requires.logic c.conclusion_of-denial.ensures.legal premise.conclusion part c.requires.part c.conclusion_of-denial.ensures.formula in
    let assumed = c.in_ok-assumed.assumed.theorem in
    let assumed_is = assumed-is j0.theory c.conclusion_of-denial.result.now assumed c.in_ok-assumed.ensures.outcome in
    let denial_is = ap (λ (t : Theorem). t.conclusion) assumed_is ∙ c.conclusion_of-denial.ensures.value ∙ denied.is in
    let not_elim_is = not_elim-is assumed part denial_is in
    let implies = c.in_ok-implication.implication.theorem in
    let implies_states = stated-ok (Ok c.in_ok-implication.implication) (terms_of_theorem assumed) (images assumed) (implication part false_term) (not_elim_outcome assumed)
    not_elim_is c.in_ok-implication.ensures.outcome in
    let undisch_is = undisch-is implies part implies_states.conclusion in
    let assumed_hyps = ap images assumed_is ∙ ap (λ (t : NamedTerm). image t ∷ []) c.conclusion_of-denial.ensures.value in
    let implies_set = subst (λ (h : List Nameless). IsSameSet (images implies) h) assumed_hyps implies_states.hypotheses in
    rw (passed_on c.from_residual-in_err-falsity.result c.in_err-falsity.field-0.0 c.from_residual-in_err-falsity.ensures.1)
    (stated-past (Err c.in_err-falsity.field-0.0) (terms_of_theorem implies) (image part ∷ images implies) false_term (undisch_outcome implies) (are_small premise) undisch_is
    (undisch_room premise implies part denied.is implies_states.conclusion implies_set) c.in_err-falsity.ensures.outcome)

pub contr_known-requires-clause-logic : goal.contr_known-requires-clause-logic
contr_known-requires-clause-logic c =
    let j0 = c.args.recorder.now in
    let logic = c.args.logic.now in
    let part = c.args.part.now in
    let premise = c.args.premise.now.theorem in
    let j1 = c.assume_known.new.recorder in
    let c1 = c.in_ok-assumed.ensures.continues in
    let l1 = still_logical j0 j1 (Ok c.in_ok-assumed.assumed) logic c1 c.requires.logic in
    let j2 = c.not_elim.new.recorder in
    let c2 = c.in_ok-implication.ensures.continues in
    let l2 = still_logical j1 j2 (Ok c.in_ok-implication.implication) logic c2 l1 in
    let j3 = c.undisch.new.recorder in
    let c3 = c.in_ok-falsity.ensures.continues in
    let l3 = still_logical j2 j3 (Ok c.in_ok-falsity.falsity) logic c3 l2 in
    let j4 = c.assume_known-2.new.recorder in
    let c4 = c.in_ok-assumed_falsity.ensures.continues in
    let l4 = still_logical j3 j4 (Ok c.in_ok-assumed_falsity.assumed_falsity) logic c4 l3 in
    l4

pub contr_known-requires-clause-formula : goal.contr_known-requires-clause-formula
contr_known-requires-clause-formula c =
    let j0 = c.args.recorder.now in
    let denied =
    denied-at j0 c.args.logic.now c.requires.logic c.conclusion_of-denial.ensures.legal c.args.premise.now.theorem.conclusion c.args.part.now c.requires.part c.conclusion_of-denial.ensures.formula in
    let c1 = c.in_ok-assumed.ensures.continues in
    let c2 = c.in_ok-implication.ensures.continues in
    let c3 = c.in_ok-falsity.ensures.continues in
    let c4 = c.in_ok-assumed_falsity.ensures.continues in
    let theory_is : c.assume_known-2.new.recorder.theory ≡ j0.theory = c4.theory ∙ c3.theory ∙ c2.theory ∙ c1.theory in
    subst (λ (t : Theory). IsFormula t c.args.part.now) (sym theory_is) denied.formula

pub returns-in_err-part_of_falsity-clause-err : goal.returns-in_err-part_of_falsity-clause-err
returns-in_err-part_of_falsity-clause-err c =
    let j0 = c.args.recorder.now in
    let logic = c.args.logic.now in
    let part = c.args.part.now in
    let premise = c.args.premise.now.theorem in
    let j1 = c.assume_known.new.recorder in
    let c1 = c.in_ok-assumed.ensures.continues in
    let l1 = still_logical j0 j1 (Ok c.in_ok-assumed.assumed) logic c1 c.requires.logic in
    let j2 = c.not_elim.new.recorder in
    let c2 = c.in_ok-implication.ensures.continues in
    let l2 = still_logical j1 j2 (Ok c.in_ok-implication.implication) logic c2 l1 in
    let j3 = c.undisch.new.recorder in
    let c3 = c.in_ok-falsity.ensures.continues in
    let l3 = still_logical j2 j3 (Ok c.in_ok-falsity.falsity) logic c3 l2 in
    let j4 = c.assume_known-2.new.recorder in
    let c4 = c.in_ok-assumed_falsity.ensures.continues in
    let l4 = still_logical j3 j4 (Ok c.in_ok-assumed_falsity.assumed_falsity) logic c4 l3 in
    let denied = denied-at j0 logic c.requires.logic c.conclusion_of-denial.ensures.legal premise.conclusion part c.requires.part c.conclusion_of-denial.ensures.formula in
    let assumed = c.in_ok-assumed.assumed.theorem in
    let assumed_is = assumed-is j0.theory c.conclusion_of-denial.result.now assumed c.in_ok-assumed.ensures.outcome in
    let denial_is = ap (λ (t : Theorem). t.conclusion) assumed_is ∙ c.conclusion_of-denial.ensures.value ∙ denied.is in
    let not_elim_is = not_elim-is assumed part denial_is in
    let implies = c.in_ok-implication.implication.theorem in
    let implies_states = stated-ok (Ok c.in_ok-implication.implication) (terms_of_theorem assumed) (images assumed) (implication part false_term) (not_elim_outcome assumed)
    not_elim_is c.in_ok-implication.ensures.outcome in
    let undisch_is = undisch-is implies part implies_states.conclusion in
    let falsity = c.in_ok-falsity.falsity.theorem in
    let falsity_states = stated-ok (Ok c.in_ok-falsity.falsity) (terms_of_theorem implies) (image part ∷ images implies) false_term (undisch_outcome implies) undisch_is
    c.in_ok-falsity.ensures.outcome in
    let of_falsity = c.in_ok-assumed_falsity.assumed_falsity.theorem in
    let of_falsity_is = assumed-is j3.theory c.conclusion_of-false_term.result.now of_falsity c.in_ok-assumed_falsity.ensures.outcome in
    let false_is : c.conclusion_of-false_term.result.now ≡ false_term = c.conclusion_of-false_term.ensures.value ∙ falsity_states.conclusion in
    let theory_is : j4.theory ≡ j0.theory = c4.theory ∙ c3.theory ∙ c2.theory ∙ c1.theory in
    let formula = subst (λ (t : Theory). IsFormula t part) (sym theory_is) denied.formula in
    let contr_is = contr-is j4.theory of_falsity part (ap (λ (t : Theorem). t.conclusion) of_falsity_is ∙ false_is) formula in
    let of_falsity_hyps = ap images of_falsity_is ∙ ap (λ (t : NamedTerm). image t ∷ []) false_is in
    rw (passed_on c.from_residual-in_err-part_of_falsity.result c.in_err-part_of_falsity.field-0.0 c.from_residual-in_err-part_of_falsity.ensures.1)
    (stated-past (Err c.in_err-part_of_falsity.field-0.0) (image part ∷ terms_of_theorem of_falsity) (images of_falsity) part (contr_outcome j4.theory part of_falsity) (are_small premise) contr_is
    (contr_room premise of_falsity part denied.is (ap (λ (t : Theorem). t.conclusion) of_falsity_is ∙ false_is) of_falsity_hyps) c.in_err-part_of_falsity.ensures.outcome)

pub deduct_antisym-requires-clause-second : goal.deduct_antisym-requires-clause-second
deduct_antisym-requires-clause-second c =
    let j0 = c.args.recorder.now in
    let logic = c.args.logic.now in
    let part = c.args.part.now in
    let premise = c.args.premise.now.theorem in
    let j1 = c.assume_known.new.recorder in
    let c1 = c.in_ok-assumed.ensures.continues in
    let l1 = still_logical j0 j1 (Ok c.in_ok-assumed.assumed) logic c1 c.requires.logic in
    let j2 = c.not_elim.new.recorder in
    let c2 = c.in_ok-implication.ensures.continues in
    let l2 = still_logical j1 j2 (Ok c.in_ok-implication.implication) logic c2 l1 in
    let j3 = c.undisch.new.recorder in
    let c3 = c.in_ok-falsity.ensures.continues in
    let l3 = still_logical j2 j3 (Ok c.in_ok-falsity.falsity) logic c3 l2 in
    let j4 = c.assume_known-2.new.recorder in
    let c4 = c.in_ok-assumed_falsity.ensures.continues in
    let l4 = still_logical j3 j4 (Ok c.in_ok-assumed_falsity.assumed_falsity) logic c4 l3 in
    let j5 = c.contr_known.new.recorder in
    let c5 = c.in_ok-part_of_falsity.ensures.continues in
    let m5 = still_made j4 j5 (Ok c.in_ok-part_of_falsity.part_of_falsity) c.in_ok-falsity.falsity c5 (still_made j3 j4 (Ok c.in_ok-assumed_falsity.assumed_falsity) c.in_ok-falsity.falsity c4 c3.held.made) in
    m5

pub returns-in_err-equation-clause-err : goal.returns-in_err-equation-clause-err
returns-in_err-equation-clause-err c =
    let j0 = c.args.recorder.now in
    let part = c.args.part.now in
    let premise = c.args.premise.now.theorem in
    let denied = denied-at j0 c.args.logic.now c.requires.logic c.conclusion_of-denial.ensures.legal premise.conclusion part c.requires.part c.conclusion_of-denial.ensures.formula in
    let theory_is = c.in_ok-assumed_falsity.ensures.continues.theory ∙ c.in_ok-falsity.ensures.continues.theory ∙ c.in_ok-implication.ensures.continues.theory
    ∙ c.in_ok-assumed.ensures.continues.theory in
    let shown =
    steps-show j0.theory c.undisch.new.recorder.theory c.assume_known-2.new.recorder.theory premise part c.conclusion_of-denial.result.now c.conclusion_of-false_term.result.now
    c.in_ok-assumed.assumed c.in_ok-implication.implication c.in_ok-falsity.falsity c.in_ok-assumed_falsity.assumed_falsity c.in_ok-part_of_falsity.part_of_falsity denied theory_is
    c.conclusion_of-denial.ensures.value c.in_ok-assumed.ensures.outcome c.in_ok-implication.ensures.outcome c.in_ok-falsity.ensures.outcome c.conclusion_of-false_term.ensures.value
    c.in_ok-assumed_falsity.ensures.outcome c.in_ok-part_of_falsity.ensures.outcome in
    let f = image false_term in
    let p = image part in
    let d = image premise.conclusion in
    rw (passed_on c.from_residual-in_err-equation.result c.in_err-equation.field-0.0 c.from_residual-in_err-equation.ensures.1)
    (derives-past (Err c.in_err-equation.field-0.0) (nameless_within_limits (nameless_equation bool_type p f)) (are_small premise) (on_the_way f p d) (nameless_equation bool_type p f)
    (deduct_room premise part denied.is) (c.in_err-equation.ensures.derives (f ∷ []) (p ∷ d ∷ []) p f shown.part_shows shown.falsity_shown))

pub cut_known-requires-clause-first : goal.cut_known-requires-clause-first
cut_known-requires-clause-first c =
    let j0 = c.args.recorder.now in
    let logic = c.args.logic.now in
    let part = c.args.part.now in
    let premise = c.args.premise.now.theorem in
    let j1 = c.assume_known.new.recorder in
    let c1 = c.in_ok-assumed.ensures.continues in
    let l1 = still_logical j0 j1 (Ok c.in_ok-assumed.assumed) logic c1 c.requires.logic in
    let j2 = c.not_elim.new.recorder in
    let c2 = c.in_ok-implication.ensures.continues in
    let l2 = still_logical j1 j2 (Ok c.in_ok-implication.implication) logic c2 l1 in
    let j3 = c.undisch.new.recorder in
    let c3 = c.in_ok-falsity.ensures.continues in
    let l3 = still_logical j2 j3 (Ok c.in_ok-falsity.falsity) logic c3 l2 in
    let j4 = c.assume_known-2.new.recorder in
    let c4 = c.in_ok-assumed_falsity.ensures.continues in
    let l4 = still_logical j3 j4 (Ok c.in_ok-assumed_falsity.assumed_falsity) logic c4 l3 in
    let j5 = c.contr_known.new.recorder in
    let c5 = c.in_ok-part_of_falsity.ensures.continues in
    let j6 = c.deduct_antisym.new.recorder in
    let c6 = c.in_ok-equation.ensures.continues in
    let c_2 = continues-twice j0 j1 j2 (Ok c.in_ok-assumed.assumed) (Ok c.in_ok-implication.implication) c1 c2 in
    let c_3 = continues-twice j0 j2 j3 (Ok c.in_ok-implication.implication) (Ok c.in_ok-falsity.falsity) c_2 c3 in
    let c_4 = continues-twice j0 j3 j4 (Ok c.in_ok-falsity.falsity) (Ok c.in_ok-assumed_falsity.assumed_falsity) c_3 c4 in
    let c_5 = continues-twice j0 j4 j5 (Ok c.in_ok-assumed_falsity.assumed_falsity) (Ok c.in_ok-part_of_falsity.part_of_falsity) c_4 c5 in
    let c_6 = continues-twice j0 j5 j6 (Ok c.in_ok-part_of_falsity.part_of_falsity) (Ok c.in_ok-equation.equation) c_5 c6 in
    still_made j0 j6 (Ok c.in_ok-equation.equation) c.args.premise.now c_6 c.requires.premise

pub returns-clause-continues : goal.returns-clause-continues
returns-clause-continues c =
    let j0 = c.args.recorder.now in
    let logic = c.args.logic.now in
    let part = c.args.part.now in
    let premise = c.args.premise.now.theorem in
    let j1 = c.assume_known.new.recorder in
    let c1 = c.in_ok-assumed.ensures.continues in
    let l1 = still_logical j0 j1 (Ok c.in_ok-assumed.assumed) logic c1 c.requires.logic in
    let j2 = c.not_elim.new.recorder in
    let c2 = c.in_ok-implication.ensures.continues in
    let l2 = still_logical j1 j2 (Ok c.in_ok-implication.implication) logic c2 l1 in
    let j3 = c.undisch.new.recorder in
    let c3 = c.in_ok-falsity.ensures.continues in
    let l3 = still_logical j2 j3 (Ok c.in_ok-falsity.falsity) logic c3 l2 in
    let j4 = c.assume_known-2.new.recorder in
    let c4 = c.in_ok-assumed_falsity.ensures.continues in
    let l4 = still_logical j3 j4 (Ok c.in_ok-assumed_falsity.assumed_falsity) logic c4 l3 in
    let j5 = c.contr_known.new.recorder in
    let c5 = c.in_ok-part_of_falsity.ensures.continues in
    let j6 = c.deduct_antisym.new.recorder in
    let c6 = c.in_ok-equation.ensures.continues in
    let c_2 = continues-twice j0 j1 j2 (Ok c.in_ok-assumed.assumed) (Ok c.in_ok-implication.implication) c1 c2 in
    let c_3 = continues-twice j0 j2 j3 (Ok c.in_ok-implication.implication) (Ok c.in_ok-falsity.falsity) c_2 c3 in
    let c_4 = continues-twice j0 j3 j4 (Ok c.in_ok-falsity.falsity) (Ok c.in_ok-assumed_falsity.assumed_falsity) c_3 c4 in
    let c_5 = continues-twice j0 j4 j5 (Ok c.in_ok-assumed_falsity.assumed_falsity) (Ok c.in_ok-part_of_falsity.part_of_falsity) c_4 c5 in
    let c_6 = continues-twice j0 j5 j6 (Ok c.in_ok-part_of_falsity.part_of_falsity) (Ok c.in_ok-equation.equation) c_5 c6 in
    continues-twice j0 j6 c.cut_known.new.recorder (Ok c.in_ok-equation.equation) c.cut_known.result c_6 c.cut_known.ensures.continues

pub cut_known-requires-clause-fits : goal.cut_known-requires-clause-fits
cut_known-requires-clause-fits c =
    let j0 = c.args.recorder.now in
    let part = c.args.part.now in
    let premise = c.args.premise.now.theorem in
    let denied = denied-at j0 c.args.logic.now c.requires.logic c.conclusion_of-denial.ensures.legal premise.conclusion part c.requires.part c.conclusion_of-denial.ensures.formula in
    let theory_is = c.in_ok-assumed_falsity.ensures.continues.theory ∙ c.in_ok-falsity.ensures.continues.theory ∙ c.in_ok-implication.ensures.continues.theory
    ∙ c.in_ok-assumed.ensures.continues.theory in
    let shown =
    steps-show j0.theory c.undisch.new.recorder.theory c.assume_known-2.new.recorder.theory premise part c.conclusion_of-denial.result.now c.conclusion_of-false_term.result.now
    c.in_ok-assumed.assumed c.in_ok-implication.implication c.in_ok-falsity.falsity c.in_ok-assumed_falsity.assumed_falsity c.in_ok-part_of_falsity.part_of_falsity denied theory_is
    c.conclusion_of-denial.ensures.value c.in_ok-assumed.ensures.outcome c.in_ok-implication.ensures.outcome c.in_ok-falsity.ensures.outcome c.conclusion_of-false_term.ensures.value
    c.in_ok-assumed_falsity.ensures.outcome c.in_ok-part_of_falsity.ensures.outcome in
    let f = image false_term in
    let p = image part in
    let d = image premise.conclusion in
    let equation_made = c.in_ok-equation.equation.theorem in
    let e = nameless_equation bool_type p f in
    let equation_shows = under-denial premise equation_made part e denied.is (c.in_ok-equation.ensures.derives (f ∷ []) (p ∷ d ∷ []) p f shown.part_shows shown.falsity_shown) in
    premise-fits premise equation_made d e refl equation_shows

pub returns-clause-ok : goal.returns-clause-ok
returns-clause-ok c =
    let j0 = c.args.recorder.now in
    let part = c.args.part.now in
    let premise = c.args.premise.now.theorem in
    let denied = denied-at j0 c.args.logic.now c.requires.logic c.conclusion_of-denial.ensures.legal premise.conclusion part c.requires.part c.conclusion_of-denial.ensures.formula in
    let theory_is = c.in_ok-assumed_falsity.ensures.continues.theory ∙ c.in_ok-falsity.ensures.continues.theory ∙ c.in_ok-implication.ensures.continues.theory
    ∙ c.in_ok-assumed.ensures.continues.theory in
    let shown =
    steps-show j0.theory c.undisch.new.recorder.theory c.assume_known-2.new.recorder.theory premise part c.conclusion_of-denial.result.now c.conclusion_of-false_term.result.now
    c.in_ok-assumed.assumed c.in_ok-implication.implication c.in_ok-falsity.falsity c.in_ok-assumed_falsity.assumed_falsity c.in_ok-part_of_falsity.part_of_falsity denied theory_is
    c.conclusion_of-denial.ensures.value c.in_ok-assumed.ensures.outcome c.in_ok-implication.ensures.outcome c.in_ok-falsity.ensures.outcome c.conclusion_of-false_term.ensures.value
    c.in_ok-assumed_falsity.ensures.outcome c.in_ok-part_of_falsity.ensures.outcome in
    let f = image false_term in
    let p = image part in
    let d = image premise.conclusion in
    let equation_made = c.in_ok-equation.equation.theorem in
    let e = nameless_equation bool_type p f in
    let equation_shows = under-denial premise equation_made part e denied.is (c.in_ok-equation.ensures.derives (f ∷ []) (p ∷ d ∷ []) p f shown.part_shows shown.falsity_shown) in
    let equation_is = c.in_ok-equation.ensures.names ∙ (λ i. equation (shown.part_is i) (shown.falsity_is i)) in
    denial-proved c.cut_known.result (nameless_within_limits (nameless_equation bool_type d e)) premise equation_made part e equation_is c.cut_known.ensures.names
    (c.cut_known.ensures.derives (images premise) (d ∷ []) d e (shows-itself premise) equation_shows)

pub returns-clause-err : goal.returns-clause-err
returns-clause-err c =
    let j0 = c.args.recorder.now in
    let part = c.args.part.now in
    let premise = c.args.premise.now.theorem in
    let denied = denied-at j0 c.args.logic.now c.requires.logic c.conclusion_of-denial.ensures.legal premise.conclusion part c.requires.part c.conclusion_of-denial.ensures.formula in
    let theory_is = c.in_ok-assumed_falsity.ensures.continues.theory ∙ c.in_ok-falsity.ensures.continues.theory ∙ c.in_ok-implication.ensures.continues.theory
    ∙ c.in_ok-assumed.ensures.continues.theory in
    let shown =
    steps-show j0.theory c.undisch.new.recorder.theory c.assume_known-2.new.recorder.theory premise part c.conclusion_of-denial.result.now c.conclusion_of-false_term.result.now
    c.in_ok-assumed.assumed c.in_ok-implication.implication c.in_ok-falsity.falsity c.in_ok-assumed_falsity.assumed_falsity c.in_ok-part_of_falsity.part_of_falsity denied theory_is
    c.conclusion_of-denial.ensures.value c.in_ok-assumed.ensures.outcome c.in_ok-implication.ensures.outcome c.in_ok-falsity.ensures.outcome c.conclusion_of-false_term.ensures.value
    c.in_ok-assumed_falsity.ensures.outcome c.in_ok-part_of_falsity.ensures.outcome in
    let f = image false_term in
    let p = image part in
    let d = image premise.conclusion in
    let equation_made = c.in_ok-equation.equation.theorem in
    let e = nameless_equation bool_type p f in
    let equation_shows = under-denial premise equation_made part e denied.is (c.in_ok-equation.ensures.derives (f ∷ []) (p ∷ d ∷ []) p f shown.part_shows shown.falsity_shown) in
    derives-past c.cut_known.result (nameless_within_limits (nameless_equation bool_type d e)) (are_small premise) (images premise ++ without d (d ∷ [])) e (cut_room premise part denied.is)
    (c.cut_known.ensures.derives (images premise) (d ∷ []) d e (shows-itself premise) equation_shows)
