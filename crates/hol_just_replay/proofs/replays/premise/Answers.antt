use Rattle.hol_just_replay.proofs.Replaying.{premise-held, premise-met}
use Rattle.hol_just_replay.proofs.replays.premise.Goals as goal

pub returns-in-Made-clause-held : goal.returns-in-Made-clause-held
returns-in-Made-clause-held c journal held =
    rw c.in-Made.is at (premise-held journal c.args.answers.now c.args.place c.index-answers-place.result c.requires c.index-answers-place.is held)

pub returns-in-Made-clause-met : goal.returns-in-Made-clause-met
returns-in-Made-clause-met c expects trees met =
    rw c.in-Made.is at (premise-met expects trees c.args.answers.now c.args.place c.index-answers-place.result c.requires c.index-answers-place.is met)

pub returns-in-Invalid-clause-met : goal.returns-in-Invalid-clause-met
returns-in-Invalid-clause-met c expects trees met =
    rw c.in-Invalid.is at (premise-met expects trees c.args.answers.now c.args.place c.index-answers-place.result c.requires c.index-answers-place.is met)

pub returns-in-Large-clause-met : goal.returns-in-Large-clause-met
returns-in-Large-clause-met c expects trees met =
    rw c.in-Large.is at (premise-met expects trees c.args.answers.now c.args.place c.index-answers-place.result c.requires c.index-answers-place.is met)
