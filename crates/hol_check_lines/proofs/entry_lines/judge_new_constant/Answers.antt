use Rattle.std.proofs.Common.{sym, ◌∙◌, subst}
use Rattle.hol_check_rules.specs.State.{theory_in}
use Rattle.hol_check_terms.proofs.GrowthLemmas.{type-within}
use Rattle.hol_check_lines.specs.NewNames.{FindsNewName}
use Rattle.hol_check_lines.proofs.EntryLineLemmas.{new-constant, loose-constant, full-constant}
use Rattle.hol_check_lines.proofs.entry_lines.judge_new_constant.Goals as goal

pub is_fixed-requires : goal.is_fixed-requires
is_fixed-requires c = type-within c.args.terms.now.types c.new_name.new.terms.types c.in-Some.named c.in_ok-number.ensures.grows.types (c.in-Some.ensures c.args.terms.now c.requires).within

pub returns-then-not-is_fixed : goal.returns-then-not-is_fixed
returns-then-not-is_fixed c =
    let found = subst (FindsNewName c.is_constant_name-is_legal.result (theory_in c.args.terms.now c.args.contents.now.entries.items) c.args.name.now
    c.new_name.new.terms.names) c.in-Some-2.is c.in_ok-number.ensures.found in
    loose-constant c.args.terms.now c.new_name.new.terms c.args.contents.now c.requires c.args.name.now c.in-Some-2.number c.in_ok-number.ensures.grows
    found.named (sym c.is_of_first_version.ensures ∙ c.if-is_of_first_version.false) c.args.ty c.in-Some.named (c.in-Some.ensures c.args.terms.now c.requires)
    (sym c.is_constant_name-is_legal.ensures ∙ found.legal) found.new (sym c.is_fixed.ensures ∙ c.if-not-is_fixed.true)

pub returns-then-is_full : goal.returns-then-is_full
returns-then-is_full c =
    let found = subst (FindsNewName c.is_constant_name-is_legal.result (theory_in c.args.terms.now c.args.contents.now.entries.items) c.args.name.now
    c.new_name.new.terms.names) c.in-Some-2.is c.in_ok-number.ensures.found in
    full-constant c.args.terms.now c.new_name.new.terms c.args.contents.now c.requires c.args.name.now c.in-Some-2.number c.in_ok-number.ensures.grows
    found.named (sym c.is_of_first_version.ensures ∙ c.if-is_of_first_version.false) c.args.ty c.in-Some.named (c.in-Some.ensures c.args.terms.now c.requires)
    (sym c.is_constant_name-is_legal.ensures ∙ found.legal) found.new (sym c.is_fixed.ensures ∙ c.if-not-is_fixed.false) (sym c.is_full.ensures ∙ c.if-is_full.true)

pub returns : goal.returns
returns c =
    let found = subst (FindsNewName c.is_constant_name-is_legal.result (theory_in c.args.terms.now c.args.contents.now.entries.items) c.args.name.now
    c.new_name.new.terms.names) c.in-Some-2.is c.in_ok-number.ensures.found in
    new-constant c.args.terms.now c.new_name.new.terms c.args.contents.now c.requires c.args.name.now c.in-Some-2.number c.in_ok-number.ensures.grows
    found.named (sym c.is_of_first_version.ensures ∙ c.if-is_of_first_version.false) c.args.ty c.in-Some.named (c.in-Some.ensures c.args.terms.now c.requires)
    (sym c.is_constant_name-is_legal.ensures ∙ found.legal) found.new (sym c.is_fixed.ensures ∙ c.if-not-is_fixed.false) (sym c.is_full.ensures ∙ c.if-is_full.false)
