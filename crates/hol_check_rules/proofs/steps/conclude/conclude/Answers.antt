use Rattle.std.proofs.Common.{subst}
use Rattle.hol_check_rules.proofs.StepLemmas.{concluded}
use Rattle.hol_check_rules.proofs.steps.conclude.conclude.Goals as goal
use Rattle.hol_check_changes.specs.Forming.{IsFormed}

pub returns-in-Ok : goal.returns-in-Ok
returns-in-Ok c = λ earlier now wanted formed grows order made. concluded earlier now (record { hypotheses = c.args.hypotheses; conclusion = c.in-Ok.conclusion }) wanted formed grows order
    (subst (λ r. IsFormed formed r now.terms) c.in-Ok.is made)
