use Rattle.std.proofs.Common.{sym, ◌∙◌}
use Rattle.hol_check_terms.proofs.TableLemmas.{is_within}
use Rattle.hol_check_rules.proofs.StateLemmas.{knows-grown}
use Rattle.hol_check_lines.proofs.TermLineLemmas.{judged-constant, adds-grown-constant, no-constant}
use Rattle.hol_check_lines.proofs.term_lines.judge_constant.Goals as goal
use Rattle.hol_check_terms.proofs.GrowthLemmas.{type-within, IsGrown-trans}

pub knows_constant-requires-clause-ty : goal.knows_constant-requires-clause-ty
knows_constant-requires-clause-ty c = type-within c.args.terms.now.types c.name.new.self.types c.in-Some.named c.in_ok-number.ensures.grows.types (c.in-Some.ensures c.args.terms.now c.requires).within

pub knows_constant-requires-clause-known : goal.knows_constant-requires-clause-known
knows_constant-requires-clause-known c = record { theory = _; knows = knows-grown c.args.terms.now c.name.new.self c.in_ok-number.ensures.grows _ _ _ c.requires.knows }

pub returns-then-not-knows_constant : goal.returns-then-not-knows_constant
returns-then-not-knows_constant c = no-constant c.args.terms.now c.name.new.self c.args.contents.now c.args.name.now c.args.ty c.in_ok-number.number c.in-Some.named
    (c.in-Some.ensures c.args.terms.now c.requires) c.in_ok-number.ensures.grows c.in_ok-number.ensures.number (sym c.is_constant_name.ensures ∙ c.if-not-is_constant_name.false)
    (sym (c.knows_constant.ensures _ (knows-grown c.args.terms.now c.name.new.self c.in_ok-number.ensures.grows _ _ _ c.requires.knows)) ∙ c.if-not-knows_constant.true)

pub constant-requires-clause-name : goal.constant-requires-clause-name
constant-requires-clause-name c = is_within c.name.new.self.names c.in_ok-number.number _ c.in_ok-number.ensures.number

pub constant-requires-clause-ty : goal.constant-requires-clause-ty
constant-requires-clause-ty c = type-within c.args.terms.now.types c.name.new.self.types c.in-Some.named c.in_ok-number.ensures.grows.types (c.in-Some.ensures c.args.terms.now c.requires).within

pub returns : goal.returns
returns c =
    judged-constant _ c.args.contents.now c.args.terms.now c.constant.new.self c.write_constant.new.terms _ _ c.in_ok-constant.constant c.judge_written.result
    (adds-grown-constant c.args.terms.now c.name.new.self c.args.contents.now c.args.name.now c.args.ty c.in_ok-number.number c.in-Some.named (c.in-Some.ensures c.args.terms.now c.requires)
    c.in_ok-number.ensures.grows c.in_ok-number.ensures.number (sym c.is_constant_name.ensures ∙ c.if-not-is_constant_name.false)
    (sym (c.knows_constant.ensures _ (knows-grown c.args.terms.now c.name.new.self c.in_ok-number.ensures.grows _ _ _ c.requires.knows)) ∙ c.if-not-knows_constant.false)) c.requires
    (IsGrown-trans c.args.terms.now c.name.new.self c.constant.new.self c.in_ok-number.ensures.grows c.in_ok-constant.ensures.grows) c.write_constant.ensures.grows c.in_ok-constant.ensures.number
    (c.judge_written.ensures _ _ c.write_constant.new.terms c.write_constant.ensures.answered)
