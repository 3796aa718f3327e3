use Rattle.std.proofs.Common.{sym, ◌∙◌}
use Rattle.hol_check_rules.proofs.StateLemmas.{knows-grown}
use Rattle.hol_check_lines.proofs.TypeLineLemmas.{judged-declared, undeclared}
use Rattle.hol_check_lines.proofs.type_lines.judge_declared_type.Goals as goal
use Rattle.hol_check_terms.proofs.GrowthLemmas.{IsGrown-trans}

pub returns-then-not-is_declared : goal.returns-then-not-is_declared
returns-then-not-is_declared c =
    undeclared c.args.terms.now c.name.new.self c.args.contents.now c.args.name.now c.in_ok-number.number (sym c.is_of_first_version.ensures ∙ c.if-is_of_first_version.false)
    (sym c.is_declared_type_name.ensures ∙ c.if-not-is_declared_type_name.false) c.in_ok-number.ensures.number
    (sym (c.is_declared.ensures _ (knows-grown c.args.terms.now c.name.new.self c.in_ok-number.ensures.grows _ _ _ c.requires.knows)) ∙ c.if-not-is_declared.true) c.in_ok-number.ensures.grows

pub returns : goal.returns
returns c =
    judged-declared c.args.terms.now c.name.new.self c.declared_type.new.self c.args.contents.now c.args.name.now c.in_ok-number.number c.in_ok-ty.ty c.requires
    (sym c.is_of_first_version.ensures ∙ c.if-is_of_first_version.false) (sym c.is_declared_type_name.ensures ∙ c.if-not-is_declared_type_name.false) c.in_ok-number.ensures.number
    (sym (c.is_declared.ensures _ (knows-grown c.args.terms.now c.name.new.self c.in_ok-number.ensures.grows _ _ _ c.requires.knows)) ∙ c.if-not-is_declared.false) c.in_ok-ty.ensures.number
    (IsGrown-trans c.args.terms.now c.name.new.self c.declared_type.new.self c.in_ok-number.ensures.grows c.in_ok-ty.ensures.grows)
