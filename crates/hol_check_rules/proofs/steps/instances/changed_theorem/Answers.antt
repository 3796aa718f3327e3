use Rattle.std.proofs.Common.{map}
use Rattle.hol_check_changes.specs.Change.{changed}
use Rattle.hol_check_rules.specs.State.{sequent_in}
use Rattle.hol_check_changes.proofs.ChangeLemmas.{meant-grown}
use Rattle.hol_check_rules.proofs.StepLemmas.{hypotheses-large, large-only}
use Rattle.hol_check_rules.proofs.steps.instances.changed_theorem.Goals as goal
use Rattle.hol_check_terms.proofs.GrowthLemmas.{term-grown}

pub returns-in-Err-TooLarge-clause-taken : goal.returns-in-Err-TooLarge-clause-taken
returns-in-Err-TooLarge-clause-taken c = λ meaning meant.
    let premise = sequent_in c.args.terms.now.terms c.args.premise.now in
    let formed = rw (c.in-Err-TooLarge.field-0-is, c.deref.ensures.value) at (c.in-Err-TooLarge.ensures.changed meaning meant) in
    hypotheses-large c.change_each.new.terms.terms (map (changed meaning 0) premise.hypotheses) (changed meaning 0 premise.conclusion) (large-only _ _ formed)

pub change_within-requires-clause-meaning : goal.change_within-requires-clause-meaning
change_within-requires-clause-meaning c =
    let m = c.requires.meaning in
    record { meaning = m.meaning; meant = meant-grown c.args.terms.now c.change_each.new.terms c.change_each.ensures.grows c.args.change.now m.meaning m.meant }

pub returns-clause-taken : goal.returns-clause-taken
returns-clause-taken c = λ meaning meant.
    let t0 = c.args.terms.now in
    let t1 = c.change_each.new.terms in
    let t2 = c.change_within.new.terms in
    let grows = c.change_each.ensures.grows in
    let premise = sequent_in t0.terms c.args.premise.now in
    let named = rw c.deref.ensures.value at (c.in-Ok.ensures.changed meaning meant).named in
    let order = rw (c.deref-2.ensures.value, named) at c.in_ok-hypotheses.ensures.all in
    let formed = rw (term-grown t0 t1 c.args.premise.now.conclusion grows c.requires.premise.conclusion.within)
    at (c.change_within.ensures.changed meaning (meant-grown t0 t1 grows c.args.change.now meaning meant)) in
    c.conclude.ensures t1 t2 (map (changed meaning 0) premise.hypotheses) (changed meaning 0 premise.conclusion) c.change_within.ensures.grows order formed
