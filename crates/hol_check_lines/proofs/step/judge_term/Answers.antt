use Rattle.hol_check_terms.specs.Terms.{term_at}
use Rattle.hol_check_rules.specs.State.{state_of}
use Rattle.hol_check_lines.specs.Rules.{term_rule, term_step}
use Rattle.hol_check_lines.proofs.JudgedSteps.{term-step}
use Rattle.hol_check_lines.proofs.step.judge_term.Goals as goal

pub returns-in-Some : goal.returns-in-Some
returns-in-Some c =
    let t0 = c.args.terms.now in
    let named = c.in-Some.ensures t0 c.requires.contents c.requires.made in
    c.judged.ensures (term_rule c.args.rule c.args.term) c.args.contents.now t0 c.take_term.new.terms (term_step c.args.rule (term_at t0.terms c.in-Some.term)) c.requires.contents.room
    c.take_term.ensures.grows (term-step (state_of t0 c.args.contents.now) t0.terms c.args.rule c.args.term c.in-Some.term named) c.take_term.ensures.taken
