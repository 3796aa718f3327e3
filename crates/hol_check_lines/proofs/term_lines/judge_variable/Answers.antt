use Rattle.std.proofs.Common.{sym, ◌∙◌}
use Rattle.hol_check_lines.proofs.TermLineLemmas.{judged-variable, adds-variable}
use Rattle.hol_check_lines.proofs.term_lines.judge_variable.Goals as goal

pub returns : goal.returns
returns c =
    let type = c.in-Some.ensures c.args.terms.now c.requires in
    judged-variable _ c.args.contents.now c.args.terms.now c.variable.new.terms c.write_variable.new.terms c.args.name.now _ c.in_ok-number.number c.judge_written.result
    (adds-variable _ c.args.name.now c.args.ty _ type.is_there (sym c.is_identifier.ensures ∙ c.if-not-is_identifier.false) type.named) c.requires
    c.in_ok-number.ensures.grows c.write_variable.ensures.grows c.in_ok-number.ensures.number (c.judge_written.ensures _ _ c.write_variable.new.terms c.write_variable.ensures.answered)
