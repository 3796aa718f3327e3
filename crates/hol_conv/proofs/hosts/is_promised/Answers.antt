use Rattle.std.proofs.Common.{Bool, sym, subst}
use Rattle.std.specs.Bool.{Decides}
use Rattle.hol_model.specs.Goals.Replays.{HasSequent}
use Rattle.hol_model.specs.Refining.HostFunctions.{promised}
use Rattle.hol_journal.proofs.Showing.{sides_of}
use Rattle.hol_conv.proofs.HostEquations.{says_equal-Decides}
use Rattle.hol_conv.proofs.hosts.is_promised.Goals as goal

pub returns : goal.returns
returns c justification =
    let left = c.args.left.now in
    let right = c.args.right.now in
    let theorem = c.args.theorem.now in
    subst (λ (test : Bool). Decides test (HasSequent (promised left (record { term = right; justification = justification })) theorem)) (sym c.says_equal.ensures)
    (says_equal-Decides left right theorem (sides_of theorem c.concl-conclusion.ensures.theorem) justification)
