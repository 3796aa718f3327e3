use Rattle.std.proofs.Common.{◌∙◌, ap, subst, Ok}
use Rattle.hol_check_rules.specs.Steps.{Takes}
use Rattle.hol_check_lines.proofs.JudgedSteps.{accepted, step-causes}
use Rattle.hol_check_lines.proofs.step.judged.Goals as goal

pub returns-in-Ok : goal.returns-in-Ok
returns-in-Ok c = λ rule contents earlier now step room grows is takes.
    let taken = subst (λ r. Takes step r now.terms) (c.in_ok-theorem.was ∙ ap Ok c.in-Ok.is) takes in
    record { judged = accepted earlier now contents rule step c.in-Ok.theorem room is taken.taken; refused = tt; grows = grows }

pub returns-in-Err : goal.returns-in-Err
returns-in-Err c = λ rule contents earlier now step room grows is takes.
    let taken = subst (λ r. Takes step r now.terms) (c.in_ok-theorem.was ∙ ap Ok c.in-Err.is) takes in
    record { judged = step-causes earlier contents rule step room is ∙ taken.taken; refused = tt; grows = grows }
