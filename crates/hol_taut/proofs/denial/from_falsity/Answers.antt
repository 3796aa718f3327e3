use Rattle.std.proofs.Common.{[], ◌∷◌, false, Some, Ok, Err, subst}
use Rattle.hol_model.specs.Terms.HolType.{bool_type}
use Rattle.hol_model.specs.Terms.NamedTerm.{NamedTerm}
use Rattle.hol_model.specs.Terms.Nameless.{image}
use Rattle.hol_model.specs.Logic.Logic as nameless
use Rattle.hol_model.specs.Logic.Theory.{IsKnown}
use Rattle.hol_bool.proofs.PreludeSteps.{still_formula, where-no-room}
use Rattle.hol_equal.proofs.StepLemmas.{continues-twice}
use Rattle.hol_equal.specs.Sequents.{Gives}
use Rattle.hol_taut.proofs.LawLemmas.{still_lawful}
use Rattle.hol_taut_formulas.specs.declared.law.Law.TheVariants.{Contr}
use Rattle.hol_taut.specs.Proved.{Proves}
use Rattle.hol_taut.proofs.LeafLemmas.{false-known, false-formula}
use Rattle.hol_taut.proofs.ShownLemmas.{leads-on}
use Rattle.hol_taut.proofs.WayLemmas.{falsity-fits}
use Rattle.hol_taut.proofs.RefutedLemmas.{contradiction-leads, assumed-proves, memory-past}
use Rattle.hol_equal.proofs.StepLemmas.{passed_on}
use Rattle.hol_taut.proofs.denial.from_falsity.Goals as goal

pub returns-in_err-assumed-clause-continues : goal.returns-in_err-assumed-clause-continues
returns-in_err-assumed-clause-continues c =
    rw (passed_on c.from_residual-in_err-assumed.result c.in_err-assumed.field-0.0 c.from_residual-in_err-assumed.ensures.1) (
    c.in_err-assumed.ensures.continues)

pub returns-in_err-assumed-clause-proves : goal.returns-in_err-assumed-clause-proves
returns-in_err-assumed-clause-proves c =
    rw (passed_on c.from_residual-in_err-assumed.result c.in_err-assumed.field-0.0 c.from_residual-in_err-assumed.ensures.1) (
    λ allowed room fits.
    let known = false-known c.args.recorder.now c.args.laws.now c.requires.laws c.theory_is_legal.ensures in
    memory-past c.in_err-assumed.field-0.0 (nameless.false_term ∷ []) nameless.false_term room
    (subst (λ (t : NamedTerm). IsKnown c.args.recorder.now.theory (image t) bool_type → Gives (Err c.in_err-assumed.field-0.0) (image t ∷ []) (image t)) c.in_ok-falsity.ensures.ok
    c.in_err-assumed.ensures.gives known))

pub assume_known-requires : goal.assume_known-requires
assume_known-requires c = false-formula c.args.recorder.now c.args.laws.now c.requires.laws c.theory_is_legal.ensures c.in_ok-falsity.falsity c.in_ok-falsity.ensures.ok

pub by_one-requires-clause-leads : goal.by_one-requires-clause-leads
by_one-requires-clause-leads c =
    let known = false-known c.args.recorder.now c.args.laws.now c.requires.laws c.theory_is_legal.ensures in
    let p = c.args.p.now in
    let later = c.assume_known.new.recorder.theory in
    let proves : Proves c.in_ok-assumed.assumed.theorem (nameless.false_term ∷ []) nameless.false_term =
    assumed-proves c.in_ok-assumed.assumed nameless.false_term []
    (subst (λ (t : NamedTerm). IsKnown c.args.recorder.now.theory (image t) bool_type → Gives (Ok c.in_ok-assumed.assumed) (image t ∷ []) (image t)) c.in_ok-falsity.ensures.ok
    c.in_ok-assumed.ensures.gives known) in
    leads-on later (Some Contr) p p (image c.in_ok-assumed.assumed.theorem.conclusion) nameless.false_term (image p) proves.concludes
    (contradiction-leads later p false (still_formula c.args.recorder.now c.assume_known.new.recorder c.assume_known.result p c.assume_known.ensures.continues c.requires.formula)
    (where-no-room nameless.false_term) (where-no-room (image p)))

pub by_one-requires-clause-laws : goal.by_one-requires-clause-laws
by_one-requires-clause-laws c = still_lawful c.args.recorder.now c.assume_known.new.recorder c.assume_known.result c.args.laws.now c.assume_known.ensures.continues c.requires.laws

pub by_one-requires-clause-premise : goal.by_one-requires-clause-premise
by_one-requires-clause-premise c = c.in_ok-assumed.ensures.continues.held.made

pub returns-clause-continues : goal.returns-clause-continues
returns-clause-continues c = continues-twice c.args.recorder.now c.assume_known.new.recorder c.by_one.new.recorder c.assume_known.result c.by_one.result c.assume_known.ensures.continues c.by_one.ensures.continues

pub returns-clause-proves : goal.returns-clause-proves
returns-clause-proves c = λ allowed room fits.
    let known = false-known c.args.recorder.now c.args.laws.now c.requires.laws c.theory_is_legal.ensures in
    let p = c.args.p.now in
    let later = c.assume_known.new.recorder.theory in
    c.by_one.ensures.proves (nameless.false_term ∷ allowed) nameless.false_term (image p) room
    (contradiction-leads later p room (still_formula c.args.recorder.now c.assume_known.new.recorder c.assume_known.result p c.assume_known.ensures.continues c.requires.formula) (falsity-fits room) fits)
    (assumed-proves c.in_ok-assumed.assumed nameless.false_term allowed
    (subst (λ (t : NamedTerm). IsKnown c.args.recorder.now.theory (image t) bool_type → Gives (Ok c.in_ok-assumed.assumed) (image t ∷ []) (image t)) c.in_ok-falsity.ensures.ok
    c.in_ok-assumed.ensures.gives known))
