use Rattle.hol_just.specs.Steps.{step_of}
use Rattle.hol_goals.specs.Stages.{attempt_of}
use Rattle.hol_goals.proofs.Focusing.{refines}
use Rattle.hol_goals.proofs.attempt.Attempt.refined.Goals as goal

pub returns-in-Underway : goal.returns-in-Underway
returns-in-Underway c =
    refines (attempt_of c.args.self.now).proof c.in-Underway.opening (step_of c.args.refinement) (rw c.in-Underway.is at c.in-Some.ensures.stage) c.refined.result
    c.refined.ensures.ok c.refined.ensures.within c.refined.ensures.err
