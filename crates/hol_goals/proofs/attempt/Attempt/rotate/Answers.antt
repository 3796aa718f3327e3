use Rattle.std.proofs.Common.{◌≡◌, length, arith}
use Rattle.hol_goals.specs.Stages.{attempt_of}
use Rattle.hol_goals.proofs.Rotating.{rotates}
use Rattle.hol_goals.proofs.attempt.Attempt.rotate.Goals as goal

pub returns-clause-outcome : goal.returns-clause-outcome
returns-clause-outcome c =
    let count : c.len.result ≡ length c.in-Underway.opening.goals.items = omega (arith, c.len.ensures, c.in-Underway.opening.goals.ok) in
    rotates (attempt_of c.args.self.now) (attempt_of c.advance.new.self) c.in-Underway.opening c.in_ok-turned.turned c.args.turns c.advance.result (rw c.in-Underway.is at c.in-Some.ensures.stage)
    (rw count at c.in_ok-turned.ensures.ok) c.advance.ensures.ok c.advance.ensures.err c.advance.ensures.kept

pub returns-clause-made : goal.returns-clause-made
returns-clause-made c = λ journal made. c.advance.ensures.made journal made tt
