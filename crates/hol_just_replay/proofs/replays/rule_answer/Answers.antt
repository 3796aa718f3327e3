use Rattle.std.proofs.Common.{rules, arith, [], ◌∷◌}
use Rattle.hol_just_replay.specs.declared.replays.LineAnswer.TheVariants.{Invalid}
use Rattle.hol_just_replay.proofs.Replaying.{kept-from, from-many, from-all, none-meet, one-meets, two-meet, three-meet, from-broken}
use Rattle.hol_just_replay.proofs.replays.rule_answer.Goals as goal

pub returns-then-count-gt3-clause-met : goal.returns-then-count-gt3-clause-met
returns-then-count-gt3-clause-met c expects trees met =
    kept-from c.args.recorder.now.theory c.args.rule.now expects trees c.args.places.now Invalid c.kept.result c.kept.ensures.value
    (from-many c.args.recorder.now.theory c.args.rule.now expects trees c.args.places.now c.if-count-gt3.true)

pub returns-then-count-eq0-clause-met : goal.returns-then-count-eq0-clause-met
returns-then-count-eq0-clause-met c expects trees met =
    from-all c.args.recorder.now.theory c.args.rule.now expects trees c.args.places.now [] c.by_rule.result
    (none-meet expects trees c.args.places.now (search rules)) c.by_rule.ensures.applied

pub returns-then-count-eq1-clause-met : goal.returns-then-count-eq1-clause-met
returns-then-count-eq1-clause-met c expects trees met =
    from-all c.args.recorder.now.theory c.args.rule.now expects trees c.args.places.now (c.in-Ok.first.now.theorem ∷ []) c.by_rule-then-count-eq1.result
    (one-meets expects trees c.args.places.now c.in-Ok.first.now (search rules) (c.in-Ok.ensures.met expects trees met)) c.by_rule-then-count-eq1.ensures.applied

pub returns-in-Err-premise-clause-met : goal.returns-in-Err-premise-clause-met
returns-in-Err-premise-clause-met c expects trees met =
    kept-from c.args.recorder.now.theory c.args.rule.now expects trees c.args.places.now c.in-Err-premise.answer c.kept-in-Err-premise.result c.kept-in-Err-premise.ensures.value
    (from-broken c.args.recorder.now.theory c.args.rule.now expects trees c.args.places.now 1 c.in-Err-premise.answer
    (omega arith) c.in-Err-premise.ensures.broken (c.in-Err-premise.ensures.met expects trees met))

pub returns-then-count-eq2-clause-met : goal.returns-then-count-eq2-clause-met
returns-then-count-eq2-clause-met c expects trees met =
    from-all c.args.recorder.now.theory c.args.rule.now expects trees c.args.places.now (c.in-Ok.first.now.theorem ∷ c.in-Ok-premise.second.now.theorem ∷ []) c.by_rule-then-count-eq2.result
    (two-meet expects trees c.args.places.now c.in-Ok.first.now c.in-Ok-premise.second.now (search rules) (c.in-Ok.ensures.met expects trees met)
    (c.in-Ok-premise.ensures.met expects trees met)) c.by_rule-then-count-eq2.ensures.applied

pub returns-in-Err-premise-2-clause-met : goal.returns-in-Err-premise-2-clause-met
returns-in-Err-premise-2-clause-met c expects trees met =
    kept-from c.args.recorder.now.theory c.args.rule.now expects trees c.args.places.now c.in-Err-premise-2.answer c.kept-in-Err-premise-2.result c.kept-in-Err-premise-2.ensures.value
    (from-broken c.args.recorder.now.theory c.args.rule.now expects trees c.args.places.now 2 c.in-Err-premise-2.answer
    (omega arith) c.in-Err-premise-2.ensures.broken (c.in-Err-premise-2.ensures.met expects trees met))

pub returns-clause-met : goal.returns-clause-met
returns-clause-met c expects trees met =
    from-all c.args.recorder.now.theory c.args.rule.now expects trees c.args.places.now
    (c.in-Ok.first.now.theorem ∷ c.in-Ok-premise.second.now.theorem ∷ c.in-Ok-premise-2.third.now.theorem ∷ []) c.by_rule-2.result
    (three-meet expects trees c.args.places.now c.in-Ok.first.now c.in-Ok-premise.second.now c.in-Ok-premise-2.third.now (omega arith)
    (c.in-Ok.ensures.met expects trees met) (c.in-Ok-premise.ensures.met expects trees met) (c.in-Ok-premise-2.ensures.met expects trees met)) c.by_rule-2.ensures.applied

pub returns-in-Err-clause-met : goal.returns-in-Err-clause-met
returns-in-Err-clause-met c expects trees met =
    kept-from c.args.recorder.now.theory c.args.rule.now expects trees c.args.places.now c.in-Err.answer c.kept-in-Err.result c.kept-in-Err.ensures.value
    (from-broken c.args.recorder.now.theory c.args.rule.now expects trees c.args.places.now 0 c.in-Err.answer (omega arith) c.in-Err.ensures.broken (c.in-Err.ensures.met expects trees met))
