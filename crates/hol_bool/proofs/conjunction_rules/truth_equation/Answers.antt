use Rattle.std.proofs.Common.{[]}
use Rattle.hol_model.specs.Logic.Logic as nameless
use Rattle.hol_model.specs.Logic.NamedLogic.{true_term}
use Rattle.hol_bool.proofs.ConjunctionSteps.{truth-is, stated-shows, truth-derives}
use Rattle.hol_bool.proofs.conjunction_rules.truth_equation.Goals as goal

pub returns-clause-derives : goal.returns-clause-derives
returns-clause-derives c h p room shown fits =
    let truth = c.theorem_of-truth.result.now.theorem in
    let premise = c.args.premise.now.theorem in
    truth-derives room c.deduct_antisym.result premise.hypotheses h p c.requires.absent shown.same_set fits
    (c.deduct_antisym.ensures.derives [] h nameless.true_term p (stated-shows true_term truth (truth-is truth c.theorem_of-truth.ensures.theorem)) shown)
