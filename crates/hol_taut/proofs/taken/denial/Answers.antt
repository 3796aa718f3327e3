use Rattle.std.proofs.Common.{Some, false, not, sym, subst}
use Rattle.hol_model.specs.Terms.Nameless.{image}
use Rattle.hol_model.specs.Logic.NamedLogic.{negation}
use Rattle.hol_bool.specs.PreludeInstances.{at_p_q}
use Rattle.hol_taut.specs.LawSteps.{LeadsTo}
use Rattle.hol_model.specs.Propositional.Connectives.{fact}
use Rattle.hol_taut.specs.Shown.{LeadsOn}
use Rattle.hol_taut.proofs.ShownLemmas.{leads-on, negation-true, negation-false}
use Rattle.hol_taut.proofs.WayLemmas.{small-nowhere}
use Rattle.hol_taut_formulas.specs.declared.law.Law.TheVariants.{NotFalse, NotTrue}
use Rattle.hol_taut_formulas.specs.declared.law.Law.{Law}
use Rattle.hol_taut.proofs.taken.denial.Goals as goal
use Rattle.hol_taut.proofs.taken.denial.Goals.{then-value, else-value}

pub returns-clause-proves : goal.returns-clause-proves
returns-clause-proves c allowed room small proves =
    let theory = c.args.recorder.now.theory in
    let part = c.args.part.now in
    let value = c.args.value in
    let from = fact (not value) (image part) in
    let to = fact value (image (negation part)) in
    elim c.if-value.branch [
      | then-value w ↦ c.by_one.ensures.proves allowed from to room
          (subst (λ (l : Law). LeadsTo theory l (at_p_q part part) room from to) (sym w.law-is) (negation-true theory value room part w.if-value.true c.requires.formula small)) proves
      | else-value w ↦ c.by_one.ensures.proves allowed from to room
          (subst (λ (l : Law). LeadsTo theory l (at_p_q part part) room from to) (sym w.law-is) (negation-false theory value room part w.if-value.false c.requires.formula small)) proves
    ]

pub by_one-requires-clause-leads : goal.by_one-requires-clause-leads
by_one-requires-clause-leads c =
    let theory = c.args.recorder.now.theory in
    let part = c.args.part.now in
    let value = c.args.value in
    let said = image c.args.premise.now.theorem.conclusion in
    let from = fact (not value) (image part) in
    let to = fact value (image (negation part)) in
    let small = small-nowhere (image (negation part)) in
    elim c.if-value.branch [
      | then-value w ↦ subst (λ (l : Law). LeadsOn theory (Some l) part part said) (sym w.law-is)
          (leads-on theory (Some NotFalse) part part said from to c.requires.said (negation-true theory value false part w.if-value.true c.requires.formula small))
      | else-value w ↦ subst (λ (l : Law). LeadsOn theory (Some l) part part said) (sym w.law-is)
          (leads-on theory (Some NotTrue) part part said from to c.requires.said (negation-false theory value false part w.if-value.false c.requires.formula small))
    ]
