use Rattle.std.proofs.Common.{◌∙◌, [], ◌∷◌, true, false, Err, refl, sym, ap, subst}
use Rattle.hol_model.specs.Terms.Nameless.{image}
use Rattle.hol_model.specs.Logic.Logic as nameless
use Rattle.hol_model.specs.Logic.Theory.{Theory}
use Rattle.hol_bool.proofs.PreludeSteps.{still_formula, where-no-room}
use Rattle.hol_equal.proofs.StepLemmas.{continues-twice, still_made}
use Rattle.hol_taut.proofs.LawLemmas.{still_lawful}
use Rattle.hol_model.specs.Propositional.Connectives.{fact}
use Rattle.hol_taut.specs.FactLists.{value_of, known_by}
use Rattle.hol_model.specs.Propositional.Propositions.{proposition}
use Rattle.hol_taut.specs.Proved.{Proves}
use Rattle.hol_taut.specs.Refuted.{AreAllFormulas}
use Rattle.hol_taut.proofs.ShownLemmas.{still_held, still_all_held}
use Rattle.hol_taut.proofs.WayLemmas.{fact-fits, small-nowhere}
use Rattle.hol_taut.proofs.RefutedLemmas.{all-small-nowhere, assumed-proves, memory-past, proves-more, all-proved-more, value-true}
use Rattle.hol_taut.proofs.NextLemmas.{told-further, no-atom-open}
use Rattle.hol_equal.proofs.StepLemmas.{passed_on}
use Rattle.hol_taut.proofs.refuted.+refuted.Goals as goal

pub shown-requires-clause-laws : goal.shown-requires-clause-laws
shown-requires-clause-laws t c =
    c.requires.laws

pub shown-requires-clause-formula : goal.shown-requires-clause-formula
shown-requires-clause-formula t c =
    c.requires.formula

pub shown-requires-clause-known : goal.shown-requires-clause-known
shown-requires-clause-known t c =
    value-true (known_by (value_of c.args.facts.now) (proposition c.args.term.now)) (sym c.is_told_true.ensures ∙ c.if-is_told_true.true)

pub shown-requires-clause-held : goal.shown-requires-clause-held
shown-requires-clause-held t c =
    c.requires.held

pub shown-requires-clause-concluded : goal.shown-requires-clause-concluded
shown-requires-clause-concluded t c =
    record { allowed = c.requires.given.allowed; proved = c.requires.given.proved }

pub returns-in_err-holds-clause-continues : goal.returns-in_err-holds-clause-continues
returns-in_err-holds-clause-continues t c =
    rw (passed_on c.from_residual.result c.in_err-holds.field-0.0 c.from_residual.ensures.1) (
    c.in_err-holds.ensures.continues)

pub returns-in_err-holds-clause-proves : goal.returns-in_err-holds-clause-proves
returns-in_err-holds-clause-proves t c =
    rw (passed_on c.from_residual.result c.in_err-holds.field-0.0 c.from_residual.ensures.1) (
    λ allowed room denial proved small smalls.
    c.in_err-holds.ensures.shows allowed room proved small)

pub by_equation-requires-clause-first : goal.by_equation-requires-clause-first
by_equation-requires-clause-first t c =
    still_made c.args.recorder.now c.shown.new.recorder c.shown.result c.args.denied.now c.shown.ensures.continues c.requires.denied.made

pub by_equation-requires-clause-second : goal.by_equation-requires-clause-second
by_equation-requires-clause-second t c =
    c.in_ok-holds.ensures.continues.held.made

pub by_equation-requires-clause-fits : goal.by_equation-requires-clause-fits
by_equation-requires-clause-fits t c =
    let given = c.requires.given in
    let holds : Proves c.in_ok-holds.holds.theorem given.allowed (image c.args.term.now) =
    c.in_ok-holds.ensures.shows given.allowed false given.proved (small-nowhere (image c.args.term.now)) in
    record { right = nameless.false_term; first_is = given.denial.concludes ∙ ap (fact false) (sym holds.concludes) }

pub returns-then-is_told_true-clause-continues : goal.returns-then-is_told_true-clause-continues
returns-then-is_told_true-clause-continues t c =
    continues-twice c.args.recorder.now c.shown.new.recorder c.by_equation.new.recorder c.shown.result c.by_equation.result c.shown.ensures.continues c.by_equation.ensures.continues

pub returns-then-is_told_true-clause-proves : goal.returns-then-is_told_true-clause-proves
returns-then-is_told_true-clause-proves t c = λ allowed room denial proved small smalls.
    c.by_equation.ensures.proves allowed (image c.args.term.now) nameless.false_term room denial (c.in_ok-holds.ensures.shows allowed room proved small)

pub unreachable-requires : goal.unreachable-requires
unreachable-requires t c =
    no-atom-open c.args.facts.now c.args.atoms.now (proposition c.args.term.now) c.is_told_true.result c.in_default.ensures c.requires.always c.requires.told
    c.is_told_true.ensures c.if-is_told_true.false

pub unreachable-unreachable : goal.unreachable-unreachable
unreachable-unreachable t c =
    no-atom-open c.args.facts.now c.args.atoms.now (proposition c.args.term.now) c.is_told_true.result c.in_default.ensures c.requires.always c.requires.told
    c.is_told_true.ensures c.if-is_told_true.false

pub assume_known-requires : goal.assume_known-requires
assume_known-requires t c =
    c.requires.atoms.each c.in-Some.atom.now c.in-Some.ensures.listed

pub returns-in_err-assumed-clause-continues : goal.returns-in_err-assumed-clause-continues
returns-in_err-assumed-clause-continues t c =
    rw (passed_on c.from_residual-in_err-assumed.result c.in_err-assumed.field-0.0 c.from_residual-in_err-assumed.ensures.1) (
    c.in_err-assumed.ensures.continues)

pub returns-in_err-assumed-clause-proves : goal.returns-in_err-assumed-clause-proves
returns-in_err-assumed-clause-proves t c =
    rw (passed_on c.from_residual-in_err-assumed.result c.in_err-assumed.field-0.0 c.from_residual-in_err-assumed.ensures.1) (
    λ allowed room denial proved small smalls.
    memory-past c.in_err-assumed.field-0.0 (image c.in-Some.atom.now ∷ []) (image c.in-Some.atom.now) room
    (c.in_err-assumed.ensures.gives (c.requires.atoms.each c.in-Some.atom.now c.in-Some.ensures.listed).known))

pub refuted-requires : goal.refuted-requires
refuted-requires t c =
    told-further c.args.facts.now _ c.in-Some.atom.now true c.args.atoms.now (proposition c.args.term.now) t (λ place. refl) c.in-Some.ensures c.decreases c.requires.told
    (still_lawful c.args.recorder.now c.assume_known.new.recorder c.assume_known.result c.args.laws.now c.assume_known.ensures.continues c.requires.laws)
    (still_formula c.args.recorder.now c.assume_known.new.recorder c.assume_known.result c.args.term.now c.assume_known.ensures.continues c.requires.formula)
    c.requires.always
    (still_held c.args.recorder.now c.assume_known.new.recorder c.assume_known.result c.args.denied.now c.assume_known.ensures.continues c.requires.denied)
    (subst (λ (y : Theory). AreAllFormulas y c.args.atoms.now) (sym c.assume_known.ensures.continues.theory) c.requires.atoms)
    (c.in_ok-assumed.ensures.continues.held, still_all_held c.args.recorder.now c.assume_known.new.recorder c.assume_known.result c.args.facts.now c.assume_known.ensures.continues c.requires.held)
    (record {
      allowed = image c.in-Some.atom.now ∷ c.requires.given.allowed;
      denial = proves-more c.args.denied.now.theorem (image c.in-Some.atom.now) c.requires.given.allowed (fact false (image c.args.term.now)) c.requires.given.denial;
      proved = (
        assumed-proves c.in_ok-assumed.assumed (image c.in-Some.atom.now) c.requires.given.allowed
            (c.in_ok-assumed.ensures.gives (c.requires.atoms.each c.in-Some.atom.now c.in-Some.ensures.listed).known),
        all-proved-more c.args.facts.now (image c.in-Some.atom.now) c.requires.given.allowed c.requires.given.proved,
      );
    })

pub returns-in_err-absurd-clause-continues : goal.returns-in_err-absurd-clause-continues
returns-in_err-absurd-clause-continues t c =
    rw (passed_on c.from_residual-in_err-absurd.result c.in_err-absurd.field-0.0 c.from_residual-in_err-absurd.ensures.1) (
    continues-twice c.args.recorder.now c.assume_known.new.recorder c.refuted.new.recorder c.assume_known.result (Err c.in_err-absurd.field-0.0) c.assume_known.ensures.continues c.in_err-absurd.ensures.continues)

pub returns-in_err-absurd-clause-proves : goal.returns-in_err-absurd-clause-proves
returns-in_err-absurd-clause-proves t c =
    rw (passed_on c.from_residual-in_err-absurd.result c.in_err-absurd.field-0.0 c.from_residual-in_err-absurd.ensures.1) (
    λ allowed room denial proved small smalls.
    c.in_err-absurd.ensures.proves (image c.in-Some.atom.now ∷ allowed) room (proves-more c.args.denied.now.theorem (image c.in-Some.atom.now) allowed (fact false (image c.args.term.now)) denial) (
      (assumed-proves c.in_ok-assumed.assumed (image c.in-Some.atom.now) allowed
          (c.in_ok-assumed.ensures.gives (c.requires.atoms.each c.in-Some.atom.now c.in-Some.ensures.listed).known)),
      all-proved-more c.args.facts.now
          (image c.in-Some.atom.now) allowed proved,
    ) small smalls)

pub denied_by-requires-clause-laws : goal.denied_by-requires-clause-laws
denied_by-requires-clause-laws t c =
    still_lawful c.args.recorder.now c.refuted.new.recorder c.refuted.result c.args.laws.now
    (continues-twice c.args.recorder.now c.assume_known.new.recorder c.refuted.new.recorder c.assume_known.result c.refuted.result c.assume_known.ensures.continues c.refuted.ensures.continues) c.requires.laws

pub denied_by-requires-clause-formula : goal.denied_by-requires-clause-formula
denied_by-requires-clause-formula t c =
    still_formula c.args.recorder.now c.refuted.new.recorder c.refuted.result c.in-Some.atom.now
    (continues-twice c.args.recorder.now c.assume_known.new.recorder c.refuted.new.recorder c.assume_known.result c.refuted.result c.assume_known.ensures.continues c.refuted.ensures.continues)
    (c.requires.atoms.each c.in-Some.atom.now c.in-Some.ensures.listed)

pub denied_by-requires-clause-absurd : goal.denied_by-requires-clause-absurd
denied_by-requires-clause-absurd t c =
    c.in_ok-absurd.ensures.continues.held

pub returns-in_err-fact-clause-continues : goal.returns-in_err-fact-clause-continues
returns-in_err-fact-clause-continues t c =
    rw (passed_on c.from_residual-in_err-fact.result c.in_err-fact.field-0.0 c.from_residual-in_err-fact.ensures.1) (
    continues-twice c.args.recorder.now c.refuted.new.recorder c.denied_by.new.recorder c.refuted.result (Err c.in_err-fact.field-0.0)
    (continues-twice c.args.recorder.now c.assume_known.new.recorder c.refuted.new.recorder c.assume_known.result c.refuted.result c.assume_known.ensures.continues c.refuted.ensures.continues)
    c.in_err-fact.ensures.continues)

pub returns-in_err-fact-clause-proves : goal.returns-in_err-fact-clause-proves
returns-in_err-fact-clause-proves t c =
    rw (passed_on c.from_residual-in_err-fact.result c.in_err-fact.field-0.0 c.from_residual-in_err-fact.ensures.1) (
    λ allowed room denial proved small smalls.
    c.in_err-fact.ensures.proves allowed room (fact-fits true room (image c.in-Some.atom.now)
    (smalls.each c.in-Some.atom.now c.in-Some.ensures.listed))
    (fact-fits false room (image c.in-Some.atom.now) (smalls.each c.in-Some.atom.now c.in-Some.ensures.listed))
    (c.in_ok-absurd.ensures.proves (image c.in-Some.atom.now ∷ allowed) room (proves-more c.args.denied.now.theorem (image c.in-Some.atom.now) allowed (fact false (image c.args.term.now)) denial) (
      (assumed-proves c.in_ok-assumed.assumed (image c.in-Some.atom.now) allowed
          (c.in_ok-assumed.ensures.gives (c.requires.atoms.each c.in-Some.atom.now c.in-Some.ensures.listed).known)),
      all-proved-more c.args.facts.now
          (image c.in-Some.atom.now) allowed proved,
    ) small smalls))

pub refuted-requires-2 : goal.refuted-requires-2
refuted-requires-2 t c =
    let continues =
    continues-twice c.args.recorder.now c.refuted.new.recorder c.denied_by.new.recorder c.refuted.result c.denied_by.result
    (continues-twice c.args.recorder.now c.assume_known.new.recorder c.refuted.new.recorder c.assume_known.result c.refuted.result c.assume_known.ensures.continues c.refuted.ensures.continues)
    c.denied_by.ensures.continues in
    let given = c.requires.given in
    let atom = image c.in-Some.atom.now in
    let absurd_proves : Proves c.in_ok-absurd.absurd.theorem (atom ∷ given.allowed) nameless.false_term =
    c.in_ok-absurd.ensures.proves (atom ∷ given.allowed) false (proves-more c.args.denied.now.theorem atom given.allowed (fact false (image c.args.term.now)) given.denial) (
      assumed-proves c.in_ok-assumed.assumed atom given.allowed (c.in_ok-assumed.ensures.gives (c.requires.atoms.each c.in-Some.atom.now c.in-Some.ensures.listed).known),
      all-proved-more c.args.facts.now atom given.allowed given.proved,
    ) (small-nowhere (image c.args.term.now)) (all-small-nowhere c.args.atoms.now) in
    told-further c.args.facts.now _ c.in-Some.atom.now false c.args.atoms.now (proposition c.args.term.now) t (λ place. refl) c.in-Some.ensures c.decreases c.requires.told
    (still_lawful c.args.recorder.now c.denied_by.new.recorder c.denied_by.result c.args.laws.now continues c.requires.laws)
    (still_formula c.args.recorder.now c.denied_by.new.recorder c.denied_by.result c.args.term.now continues c.requires.formula)
    c.requires.always
    (still_held c.args.recorder.now c.denied_by.new.recorder c.denied_by.result c.args.denied.now continues c.requires.denied)
    (subst (λ (y : Theory). AreAllFormulas y c.args.atoms.now) (sym continues.theory) c.requires.atoms)
    (c.in_ok-fact.ensures.continues.held, still_all_held c.args.recorder.now c.denied_by.new.recorder c.denied_by.result c.args.facts.now continues c.requires.held)
    (record {
      allowed = given.allowed;
      denial = given.denial;
      proved = (c.in_ok-fact.ensures.proves given.allowed false (where-no-room atom) (where-no-room (fact false atom)) absurd_proves, given.proved);
    })

pub returns-clause-continues : goal.returns-clause-continues
returns-clause-continues t c =
    continues-twice c.args.recorder.now c.denied_by.new.recorder c.refuted-2.new.recorder c.denied_by.result c.refuted-2.result
    (continues-twice c.args.recorder.now c.refuted.new.recorder c.denied_by.new.recorder c.refuted.result c.denied_by.result
    (continues-twice c.args.recorder.now c.assume_known.new.recorder c.refuted.new.recorder c.assume_known.result c.refuted.result c.assume_known.ensures.continues c.refuted.ensures.continues)
    c.denied_by.ensures.continues) c.refuted-2.ensures.continues

pub returns-clause-proves : goal.returns-clause-proves
returns-clause-proves t c = λ allowed room denial proved small smalls.
    c.refuted-2.ensures.proves allowed room denial (
      c.in_ok-fact.ensures.proves allowed room (fact-fits true room (image c.in-Some.atom.now)
          (smalls.each c.in-Some.atom.now c.in-Some.ensures.listed))
          (fact-fits false room (image c.in-Some.atom.now) (smalls.each c.in-Some.atom.now c.in-Some.ensures.listed))
          (c.in_ok-absurd.ensures.proves (image c.in-Some.atom.now ∷ allowed) room
          (proves-more c.args.denied.now.theorem (image c.in-Some.atom.now) allowed (fact false (image c.args.term.now)) denial) (
            (assumed-proves c.in_ok-assumed.assumed (image c.in-Some.atom.now) allowed
                (c.in_ok-assumed.ensures.gives (c.requires.atoms.each c.in-Some.atom.now c.in-Some.ensures.listed).known)),
            all-proved-more c.args.facts.now
                (image c.in-Some.atom.now) allowed proved,
          ) small
          smalls),
      proved,
    ) small smalls
