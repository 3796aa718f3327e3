use Rattle.std.proofs.Common.{sym, ◌∙◌}
use Rattle.hol_check_lines.proofs.TermLineLemmas.{judged-combination, no-combination}
use Rattle.hol_check_lines.proofs.term_lines.judge_combination.Goals as goal

pub takes-requires-clause-function : goal.takes-requires-clause-function
takes-requires-clause-function c = (c.in-Some-Some.ensures c.args.terms.now c.requires).writes.type_within

pub takes-requires-clause-argument : goal.takes-requires-clause-argument
takes-requires-clause-argument c = (c.in-Some-Some.ensures' c.args.terms.now c.requires).writes.type_within

pub returns-then-not-takes : goal.returns-then-not-takes
returns-then-not-takes c =
    no-combination c.args.terms.now c.args.contents.now c.args.function c.args.argument c.in-Some-Some.f c.in-Some-Some.a (c.in-Some-Some.ensures c.args.terms.now c.requires)
    (c.in-Some-Some.ensures' c.args.terms.now c.requires)
    (sym c.takes.ensures ∙ c.if-not-takes.true)

pub write_combination-requires-clause-function : goal.write_combination-requires-clause-function
write_combination-requires-clause-function c = record { term = _; writes = (c.in-Some-Some.ensures c.args.terms.now c.requires).writes }

pub write_combination-requires-clause-argument : goal.write_combination-requires-clause-argument
write_combination-requires-clause-argument c = record { term = _; writes = (c.in-Some-Some.ensures' c.args.terms.now c.requires).writes }

pub returns : goal.returns
returns c =
    let first = c.in-Some-Some.ensures c.args.terms.now c.requires in
    let second = c.in-Some-Some.ensures' c.args.terms.now c.requires in
    judged-combination c.args.terms.now c.args.contents.now c.args.function c.args.argument c.in-Some-Some.f c.in-Some-Some.a first second c.judge_written.result c.requires
    (sym c.takes.ensures ∙ c.if-not-takes.false)
    (c.judge_written.ensures _ _ c.args.terms.now (c.write_combination.ensures _ _ first.writes second.writes))
