use Rattle.std.proofs.lemmas.List.{take_rest}
use Rattle.hol_goals.proofs.NumberedSteps.{all-steps}
use Rattle.hol_goals.proofs.turning.turning_steps.Goals as goal

pub returns-clause-ok : goal.returns-clause-ok
returns-clause-ok c =
    all-steps c.args.turns c.args.goals.now c.in_ok-steps.steps.items c.append_untouched.new.steps.items c.push.new.self.items c.in_ok-last_of.field-0
    c.requires c.in_ok-steps.ensures.ok (rw (take_rest c.args.goals.now c.args.turns) at c.in_ok-append_untouched.ensures.ok) c.in_ok-last_of.ensures.ok c.in_ok-push.ensures.items
