use Rattle.std.proofs.Common.{sym, ◌∙◌, ◌+◌}
use Rattle.std.proofs.lemmas.List.{take-map}
use Rattle.hol_just.specs.Steps.{goal_of}
use Rattle.hol_goals.proofs.turning.last_of.Goals as goal

pub returns-clause-ok : goal.returns-clause-ok
returns-clause-ok c =
    let goals = (rw c.new-copies.ensures.items at c.in_ok-append_goals.ensures.ok) ∙ sym (take-map goal_of (c.args.number + 1) c.args.goals.now) in
    λ i. record { goals = goals i; justification = c.in_ok-sub.ensures.tree i }
