use Rattle.std.proofs.Common.{◌++◌}
use Rattle.hol_model.specs.Logic.Derivable.{without}
use Rattle.hol_check_rules.specs.State.{sequent_in}
use Rattle.hol_check_rules.proofs.steps.logic.deduct.Goals as goal

pub returns-clause-taken : goal.returns-clause-taken
returns-clause-taken c =
    let terms = c.args.terms.now.terms in
    let first = sequent_in terms c.args.first.now in
    let second = sequent_in terms c.args.second.now in
    let one = rw c.deref.ensures.value at c.in_ok-first_left.ensures.others in
    let two = rw c.deref-2.ensures.value at c.in_ok-second_left.ensures.others in
    let order = rw (c.deref-3.ensures.value, c.deref-4.ensures.value, one, two) at c.in_ok-hypotheses.ensures.all in
    c.conclude.ensures c.args.terms.now c.equation_of.new.terms (without second.conclusion first.hypotheses ++ without first.conclusion second.hypotheses) _ c.equation_of.ensures.grows order
    c.equation_of.ensures.formed
