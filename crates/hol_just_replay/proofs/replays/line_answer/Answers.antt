use Rattle.std.proofs.Common.{Bor, rules}
use Rattle.std.specs.Option.{option_map}
use Rattle.hol_journal.specs.Journal.{Recorded}
use Rattle.std.specs.String.{string_bytes}
use Rattle.hol_theorem_store.specs.Store.{stored_of}
use Rattle.hol_just_replay.specs.Lines.{expected_in}
use Rattle.hol_just_replay.proofs.Replaying.{sub-met, stored-met, lemma-met, rule-line-met}
use Rattle.hol_just_replay.proofs.replays.line_answer.Goals as goal

pub returns-in-Sub-clause-met : goal.returns-in-Sub-clause-met
returns-in-Sub-clause-met c trees met =
    rw c.in-Sub.is (sub-met c.args.recorder.now.theory (stored_of c.args.store.now) c.args.subgoals.now c.in-Sub.number
    (option_map (λ (theorem : Bor Recorded). theorem.now) c.subgoal_at.result) c.named_answer.result
    c.subgoal_at.ensures c.named_answer.ensures.named)

pub returns-in-Named-clause-met : goal.returns-in-Named-clause-met
returns-in-Named-clause-met c trees met =
    rw c.in-Named.is (stored-met c.args.recorder.now.theory (stored_of c.args.store.now) c.args.subgoals.now
    (string_bytes c.in-Named.name) c.deref.result.now
    (option_map (λ (theorem : Bor Recorded). theorem.now) c.get.result) c.named_answer-in-Named.result
    c.get.ensures.found (search rules) c.named_answer-in-Named.ensures.named)

pub returns-in-Lemma-clause-met : goal.returns-in-Lemma-clause-met
returns-in-Lemma-clause-met c trees met =
    rw c.in-Lemma.is (lemma-met c.args.recorder.now.theory (stored_of c.args.store.now) c.args.subgoals.now c.in-Lemma.number
    (option_map (λ (theorem : Bor Recorded). theorem.now) c.lemma.result) c.named_answer-in-Lemma.result
    c.lemma.ensures.found c.named_answer-in-Lemma.ensures.named)

pub returns-in-ByRule-clause-met : goal.returns-in-ByRule-clause-met
returns-in-ByRule-clause-met c trees met =
    rw c.in-ByRule.is (rule-line-met c.args.recorder.now.theory (stored_of c.args.store.now) c.args.subgoals.now c.in-ByRule.rule.value trees c.in-ByRule.places.items c.rule_answer.result
    (rw (c.deref-in-ByRule.ensures, c.deref-in-ByRule-2.ensures.value) at
    (c.rule_answer.ensures.met (expected_in c.args.recorder.now.theory (stored_of c.args.store.now) c.args.subgoals.now) trees met)))
