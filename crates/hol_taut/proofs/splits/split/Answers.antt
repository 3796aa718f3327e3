use Rattle.std.proofs.Common.{List, [], ◌∷◌, false, Some, Err, sym, ◌∙◌, subst}
use Rattle.hol_model.specs.Terms.NamedTerm.{NamedTerm}
use Rattle.hol_model.specs.Terms.Nameless.{Nameless, image}
use Rattle.hol_model.specs.Logic.Logic as nameless
use Rattle.hol_bool.proofs.PreludeSteps.{still_formula, where-no-room}
use Rattle.hol_equal.proofs.StepLemmas.{continues-twice}
use Rattle.hol_taut.proofs.LawLemmas.{still_lawful}
use Rattle.hol_model.specs.Propositional.Connectives.{fact}
use Rattle.hol_taut.specs.declared.facts.Facts.{Nothing}
use Rattle.hol_model.specs.Propositional.Propositions.{proposition}
use Rattle.hol_taut.specs.Proved.{Proves}
use Rattle.hol_taut.specs.Refuted.{AreTold, AreAllFormulas, AreAllSmall}
use Rattle.hol_taut_formulas.specs.declared.law.Law.TheVariants.{NotFalseElim}
use Rattle.hol_taut.proofs.RefutedLemmas.{all-small-nowhere, assumed-proves, memory-past}
use Rattle.hol_taut.proofs.ShownLemmas.{leads-on}
use Rattle.hol_taut.proofs.WayLemmas.{small-nowhere}
use Rattle.hol_taut.proofs.AtomLemmas.{atoms-formulas, atoms-small, atoms-told, accepted-true}
use Rattle.hol_taut.proofs.TautologyLemmas.{denial-image, denial-fits, denied-fits, denied-leads}
use Rattle.hol_equal.proofs.StepLemmas.{passed_on}
use Rattle.hol_taut.proofs.splits.split.Goals as goal

pub assume_known-requires : goal.assume_known-requires
assume_known-requires c = c.requires.denied.denies

pub returns-in_err-assumed-clause-continues : goal.returns-in_err-assumed-clause-continues
returns-in_err-assumed-clause-continues c =
    rw (passed_on c.from_residual.result c.in_err-assumed.field-0.0 c.from_residual.ensures.1) (
    c.in_err-assumed.ensures.continues)

pub returns-in_err-assumed-clause-proves : goal.returns-in_err-assumed-clause-proves
returns-in_err-assumed-clause-proves c =
    rw (passed_on c.from_residual.result c.in_err-assumed.field-0.0 c.from_residual.ensures.1) (
    λ room small.
    memory-past c.in_err-assumed.field-0.0 (image c.args.denied.now.denial ∷ []) (image c.args.denied.now.denial) room (c.in_err-assumed.ensures.gives c.requires.denied.denies.known))

pub refuted-requires-clause-laws : goal.refuted-requires-clause-laws
refuted-requires-clause-laws c =
    still_lawful c.args.recorder.now c.assume_known.new.recorder c.assume_known.result c.args.laws.now c.assume_known.ensures.continues c.requires.laws

pub refuted-requires-clause-formula : goal.refuted-requires-clause-formula
refuted-requires-clause-formula c =
    still_formula c.args.recorder.now c.assume_known.new.recorder c.assume_known.result c.args.term.now c.assume_known.ensures.continues c.requires.denied.passed.formula

pub refuted-requires-clause-always : goal.refuted-requires-clause-always
refuted-requires-clause-always c =
    accepted-true c.args.term.now c.requires.denied.accepted

pub refuted-requires-clause-denied : goal.refuted-requires-clause-denied
refuted-requires-clause-denied c =
    c.in_ok-assumed.ensures.continues.held

pub refuted-requires-clause-atoms : goal.refuted-requires-clause-atoms
refuted-requires-clause-atoms c =
    subst (λ (l : List NamedTerm). AreAllFormulas c.assume_known.new.recorder.theory l) (sym (c.deref.ensures.value ∙ c.requires.denied.atoms))
    (atoms-formulas c.assume_known.new.recorder.theory c.args.term.now
    (still_formula c.args.recorder.now c.assume_known.new.recorder c.assume_known.result c.args.term.now c.assume_known.ensures.continues c.requires.denied.passed.formula))

pub refuted-requires-clause-told : goal.refuted-requires-clause-told
refuted-requires-clause-told c =
    subst (λ (l : List NamedTerm). AreTold Nothing l (proposition c.args.term.now)) (sym (c.deref.ensures.value ∙ c.requires.denied.atoms)) (atoms-told c.args.term.now)

pub refuted-requires-clause-held : goal.refuted-requires-clause-held
refuted-requires-clause-held c =
    tt

pub refuted-requires-clause-given : goal.refuted-requires-clause-given
refuted-requires-clause-given c = record {
  allowed = image c.args.denied.now.denial ∷ [];
  denial = subst (λ (t : Nameless). Proves c.in_ok-assumed.assumed.theorem (image c.args.denied.now.denial ∷ []) t)
      (denial-image c.args.recorder.now.theory c.args.term.now c.args.denied.now.denial c.requires.denied.passed.formula c.requires.denied.denial)
      (assumed-proves c.in_ok-assumed.assumed (image c.args.denied.now.denial) [] (c.in_ok-assumed.ensures.gives c.requires.denied.denies.known));
  proved = tt;
}

pub returns-in_err-absurd-clause-continues : goal.returns-in_err-absurd-clause-continues
returns-in_err-absurd-clause-continues c =
    rw (passed_on c.from_residual-in_err-absurd.result c.in_err-absurd.field-0.0 c.from_residual-in_err-absurd.ensures.1) (
    continues-twice c.args.recorder.now c.assume_known.new.recorder c.refuted.new.recorder c.assume_known.result (Err c.in_err-absurd.field-0.0) c.assume_known.ensures.continues c.in_err-absurd.ensures.continues)

pub returns-in_err-absurd-clause-proves : goal.returns-in_err-absurd-clause-proves
returns-in_err-absurd-clause-proves c =
    rw (passed_on c.from_residual-in_err-absurd.result c.in_err-absurd.field-0.0 c.from_residual-in_err-absurd.ensures.1) (
    λ room small.
    c.in_err-absurd.ensures.proves (image c.args.denied.now.denial ∷ []) room
    (subst (λ (t : Nameless). Proves c.in_ok-assumed.assumed.theorem (image c.args.denied.now.denial ∷ []) t)
    (denial-image c.args.recorder.now.theory c.args.term.now c.args.denied.now.denial c.requires.denied.passed.formula c.requires.denied.denial)
    (assumed-proves c.in_ok-assumed.assumed (image c.args.denied.now.denial) [] (c.in_ok-assumed.ensures.gives c.requires.denied.denies.known))) tt small
    (subst (λ (l : List NamedTerm). AreAllSmall room l) (sym (c.deref.ensures.value ∙ c.requires.denied.atoms)) (atoms-small room c.args.term.now small)))

pub denied_by-requires-clause-laws : goal.denied_by-requires-clause-laws
denied_by-requires-clause-laws c =
    still_lawful c.args.recorder.now c.refuted.new.recorder c.refuted.result c.args.laws.now
    (continues-twice c.args.recorder.now c.assume_known.new.recorder c.refuted.new.recorder c.assume_known.result c.refuted.result c.assume_known.ensures.continues c.refuted.ensures.continues) c.requires.laws

pub denied_by-requires-clause-formula : goal.denied_by-requires-clause-formula
denied_by-requires-clause-formula c =
    still_formula c.args.recorder.now c.refuted.new.recorder c.refuted.result c.args.denied.now.denial
    (continues-twice c.args.recorder.now c.assume_known.new.recorder c.refuted.new.recorder c.assume_known.result c.refuted.result c.assume_known.ensures.continues c.refuted.ensures.continues) c.requires.denied.denies

pub denied_by-requires-clause-absurd : goal.denied_by-requires-clause-absurd
denied_by-requires-clause-absurd c =
    c.in_ok-absurd.ensures.continues.held

pub returns-in_err-denied_denial-clause-continues : goal.returns-in_err-denied_denial-clause-continues
returns-in_err-denied_denial-clause-continues c =
    rw (passed_on c.from_residual-in_err-denied_denial.result c.in_err-denied_denial.field-0.0 c.from_residual-in_err-denied_denial.ensures.1) (
    continues-twice c.args.recorder.now c.refuted.new.recorder c.denied_by.new.recorder c.refuted.result (Err c.in_err-denied_denial.field-0.0)
    (continues-twice c.args.recorder.now c.assume_known.new.recorder c.refuted.new.recorder c.assume_known.result c.refuted.result c.assume_known.ensures.continues c.refuted.ensures.continues)
    c.in_err-denied_denial.ensures.continues)

pub returns-in_err-denied_denial-clause-proves : goal.returns-in_err-denied_denial-clause-proves
returns-in_err-denied_denial-clause-proves c =
    rw (passed_on c.from_residual-in_err-denied_denial.result c.in_err-denied_denial.field-0.0 c.from_residual-in_err-denied_denial.ensures.1) (
    λ room small.
    c.in_err-denied_denial.ensures.proves [] room (denial-fits room (image c.args.term.now) (image c.args.denied.now.denial)
    (denial-image c.args.recorder.now.theory c.args.term.now c.args.denied.now.denial c.requires.denied.passed.formula c.requires.denied.denial) small)
    (denied-fits room (image c.args.term.now) (image c.args.denied.now.denial) (denial-image c.args.recorder.now.theory c.args.term.now c.args.denied.now.denial c.requires.denied.passed.formula c.requires.denied.denial) small)
    (c.in_ok-absurd.ensures.proves (image c.args.denied.now.denial ∷ []) room
    (subst (λ (t : Nameless). Proves c.in_ok-assumed.assumed.theorem (image c.args.denied.now.denial ∷ []) t)
    (denial-image c.args.recorder.now.theory c.args.term.now c.args.denied.now.denial c.requires.denied.passed.formula c.requires.denied.denial)
    (assumed-proves c.in_ok-assumed.assumed (image c.args.denied.now.denial) [] (c.in_ok-assumed.ensures.gives c.requires.denied.denies.known))) tt small
    (subst (λ (l : List NamedTerm). AreAllSmall room l) (sym (c.deref.ensures.value ∙ c.requires.denied.atoms)) (atoms-small room c.args.term.now small))))

pub by_one-requires-clause-laws : goal.by_one-requires-clause-laws
by_one-requires-clause-laws c =
    still_lawful c.args.recorder.now c.denied_by.new.recorder c.denied_by.result c.args.laws.now
    (continues-twice c.args.recorder.now c.refuted.new.recorder c.denied_by.new.recorder c.refuted.result c.denied_by.result
    (continues-twice c.args.recorder.now c.assume_known.new.recorder c.refuted.new.recorder c.assume_known.result c.refuted.result c.assume_known.ensures.continues c.refuted.ensures.continues)
    c.denied_by.ensures.continues) c.requires.laws

pub by_one-requires-clause-premise : goal.by_one-requires-clause-premise
by_one-requires-clause-premise c =
    c.in_ok-denied_denial.ensures.continues.held.made

pub by_one-requires-clause-leads : goal.by_one-requires-clause-leads
by_one-requires-clause-leads c =
    let term = c.args.term.now in
    let denial = image c.args.denied.now.denial in
    let later = c.denied_by.new.recorder.theory in
    let denial_is = denial-image c.args.recorder.now.theory term c.args.denied.now.denial c.requires.denied.passed.formula c.requires.denied.denial in
    let absurd : Proves c.in_ok-absurd.absurd.theorem (denial ∷ []) nameless.false_term =
    c.in_ok-absurd.ensures.proves (denial ∷ []) false
    (subst (λ (t : Nameless). Proves c.in_ok-assumed.assumed.theorem (denial ∷ []) t) denial_is
    (assumed-proves c.in_ok-assumed.assumed denial [] (c.in_ok-assumed.ensures.gives c.requires.denied.denies.known))) tt (small-nowhere (image term))
    (all-small-nowhere c.deref.result.now) in
    let proves : Proves c.in_ok-denied_denial.denied_denial.theorem [] (fact false denial) =
    c.in_ok-denied_denial.ensures.proves [] false (where-no-room denial) (where-no-room (fact false denial)) absurd in
    leads-on later (Some NotFalseElim) term term (image c.in_ok-denied_denial.denied_denial.theorem.conclusion) (fact false denial) (image term) proves.concludes
    (denied-leads later term denial false denial_is
    (still_formula c.args.recorder.now c.denied_by.new.recorder c.denied_by.result term
    (continues-twice c.args.recorder.now c.refuted.new.recorder c.denied_by.new.recorder c.refuted.result c.denied_by.result
    (continues-twice c.args.recorder.now c.assume_known.new.recorder c.refuted.new.recorder c.assume_known.result c.refuted.result c.assume_known.ensures.continues c.refuted.ensures.continues)
    c.denied_by.ensures.continues) c.requires.denied.passed.formula) (small-nowhere (image term)))

pub returns-clause-continues : goal.returns-clause-continues
returns-clause-continues c =
    continues-twice c.args.recorder.now c.denied_by.new.recorder c.by_one.new.recorder c.denied_by.result c.by_one.result
    (continues-twice c.args.recorder.now c.refuted.new.recorder c.denied_by.new.recorder c.refuted.result c.denied_by.result
    (continues-twice c.args.recorder.now c.assume_known.new.recorder c.refuted.new.recorder c.assume_known.result c.refuted.result c.assume_known.ensures.continues c.refuted.ensures.continues)
    c.denied_by.ensures.continues) c.by_one.ensures.continues

pub returns-clause-proves : goal.returns-clause-proves
returns-clause-proves c = λ room small.
    c.by_one.ensures.proves [] (fact false (image c.args.denied.now.denial)) (image c.args.term.now) room
    (denied-leads c.denied_by.new.recorder.theory c.args.term.now (image c.args.denied.now.denial) room
    (denial-image c.args.recorder.now.theory c.args.term.now c.args.denied.now.denial c.requires.denied.passed.formula c.requires.denied.denial)
    (still_formula c.args.recorder.now c.denied_by.new.recorder c.denied_by.result c.args.term.now
    (continues-twice c.args.recorder.now c.refuted.new.recorder c.denied_by.new.recorder c.refuted.result c.denied_by.result
    (continues-twice c.args.recorder.now c.assume_known.new.recorder c.refuted.new.recorder c.assume_known.result c.refuted.result c.assume_known.ensures.continues c.refuted.ensures.continues)
    c.denied_by.ensures.continues) c.requires.denied.passed.formula) small)
    (c.in_ok-denied_denial.ensures.proves [] room (denial-fits room (image c.args.term.now) (image c.args.denied.now.denial)
    (denial-image c.args.recorder.now.theory c.args.term.now c.args.denied.now.denial c.requires.denied.passed.formula c.requires.denied.denial) small)
    (denied-fits room (image c.args.term.now) (image c.args.denied.now.denial) (denial-image c.args.recorder.now.theory c.args.term.now c.args.denied.now.denial c.requires.denied.passed.formula c.requires.denied.denial) small)
    (c.in_ok-absurd.ensures.proves (image c.args.denied.now.denial ∷ []) room
    (subst (λ (t : Nameless). Proves c.in_ok-assumed.assumed.theorem (image c.args.denied.now.denial ∷ []) t)
    (denial-image c.args.recorder.now.theory c.args.term.now c.args.denied.now.denial c.requires.denied.passed.formula c.requires.denied.denial)
    (assumed-proves c.in_ok-assumed.assumed (image c.args.denied.now.denial) [] (c.in_ok-assumed.ensures.gives c.requires.denied.denies.known))) tt small
    (subst (λ (l : List NamedTerm). AreAllSmall room l) (sym (c.deref.ensures.value ∙ c.requires.denied.atoms)) (atoms-small room c.args.term.now small))))
