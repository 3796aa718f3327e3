use Rattle.std.proofs.Common.{◌<◌, length, arith}
use Rattle.hol_just.specs.Steps.{goal_of}
use Rattle.hol_goals.specs.Stages.{shown}
use Rattle.hol_goals.proofs.Stacks.{goes-back}
use Rattle.hol_goals.proofs.Made.{back_made}
use Rattle.hol_goals.proofs.attempt.Attempt.back.Goals as goal

pub returns-clause-outcome : goal.returns-clause-outcome
returns-clause-outcome c =
    let many : 1 < length (shown c.args.self.now.change c.args.self.now.stages.items) = omega (arith, c.count-count.ensures, c.if-count-eq0.false, c.if-count-eq1.false) in
    goes-back (goal_of c.args.self.now.goal) c.args.self.now.change c.args.self.now.stages.items c.uncover.new.stages.items c.uncover.ensures many

pub returns-clause-made : goal.returns-clause-made
returns-clause-made c = λ journal made. record {
  stages = back_made journal c.args.self.now.change c.args.self.now.stages.items c.uncover.new.stages.items c.uncover.ensures made.stages;
}
