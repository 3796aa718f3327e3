use Rattle.std.proofs.Common.{sym, ◌∙◌, ap, ◌++◌, take, drop}
use Rattle.std.proofs.lemmas.List.{take-map, drop-map, take_rest}
use Rattle.hol_just.specs.Steps.{goal_of, goals_of}
use Rattle.hol_goals.proofs.turning.turned_goals.Goals as goal

pub returns-clause-ok : goal.returns-clause-ok
returns-clause-ok c =
    let front = (rw c.new-turned.ensures.items at c.in_ok-append_goals.ensures.ok) ∙ ap goals_of (take_rest c.args.goals.now c.args.turns) ∙ sym (drop-map goal_of c.args.turns c.args.goals.now) in
    c.in_ok-append_goals-2.ensures.ok ∙ ap (λ l. l ++ goals_of (take c.args.turns c.args.goals.now)) front
    ∙ ap (λ l. drop c.args.turns (goals_of c.args.goals.now) ++ l) (sym (take-map goal_of c.args.turns c.args.goals.now))
