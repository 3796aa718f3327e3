use Rattle.std.proofs.Common.{[], ◌∷◌, Bool, Ok, Err, sym, subst}
use Rattle.hol_model.specs.Terms.HolType.{bool_type}
use Rattle.hol_model.specs.Terms.NamedTerm.{NamedTerm}
use Rattle.hol_model.specs.Terms.Nameless.{image}
use Rattle.hol_model.specs.Logic.Logic as nameless
use Rattle.hol_model.specs.Logic.Theory.{IsKnown}
use Rattle.hol_model.specs.Propositional.Connectives.{constant_fact}
use Rattle.hol_equal.specs.Sequents.{Gives}
use Rattle.hol_taut.specs.Proved.{ProvesIf}
use Rattle.hol_taut.proofs.LeafLemmas.{truth-proved, false-known, false-formula}
use Rattle.hol_taut.proofs.RefutedLemmas.{assumed-proves, memory-past}
use Rattle.hol_taut.proofs.WayLemmas.{falsity-equation-fits}
use Rattle.hol_equal.proofs.StepLemmas.{passed_on}
use Rattle.hol_taut.proofs.leaves.constantly.Goals as goal

pub returns-then-value-clause-proves : goal.returns-then-value-clause-proves
returns-then-value-clause-proves c allowed room =
    subst (λ (v : Bool). ProvesIf room c.named.result allowed (constant_fact v)) (sym c.if-value.true)
    (truth-proved c.named.result c.law_theorem-truth.result.now.theorem c.conclusion_of-conclusion.result.now c.law_theorem-truth.ensures.theorem
    c.conclusion_of-conclusion.ensures.value c.named.ensures.derives allowed room)

pub returns-in_err-assumed-clause-proves : goal.returns-in_err-assumed-clause-proves
returns-in_err-assumed-clause-proves c allowed room =
    rw (passed_on c.from_residual-in_err-assumed.result c.in_err-assumed.field-0.0 c.from_residual-in_err-assumed.ensures.1) (
    let journal = c.args.recorder.now in
    let known = false-known journal c.args.laws.now c.requires c.theory_is_legal.ensures in
    memory-past c.in_err-assumed.field-0.0 (nameless.false_term ∷ []) nameless.false_term room
    (subst (λ (t : NamedTerm). IsKnown journal.theory (image t) bool_type → Gives (Err c.in_err-assumed.field-0.0) (image t ∷ []) (image t)) c.in_ok-falsity.ensures.ok c.in_err-assumed.ensures.gives known))

pub returns-clause-proves : goal.returns-clause-proves
returns-clause-proves c allowed room =
    let journal = c.args.recorder.now in
    let known = false-known journal c.args.laws.now c.requires c.theory_is_legal.ensures in
    let one = assumed-proves c.in_ok-assumed.assumed nameless.false_term allowed
    (subst (λ (t : NamedTerm). IsKnown journal.theory (image t) bool_type → Gives (Ok c.in_ok-assumed.assumed) (image t ∷ []) (image t)) c.in_ok-falsity.ensures.ok c.in_ok-assumed.ensures.gives known) in
    subst (λ (v : Bool). ProvesIf room c.by_both.result allowed (constant_fact v)) (sym c.if-value.false)
    (c.by_both.ensures.proves allowed nameless.false_term nameless.false_term room (falsity-equation-fits room) one one)

pub assume_known-requires : goal.assume_known-requires
assume_known-requires c = false-formula c.args.recorder.now c.args.laws.now c.requires c.theory_is_legal.ensures c.in_ok-falsity.falsity c.in_ok-falsity.ensures.ok
