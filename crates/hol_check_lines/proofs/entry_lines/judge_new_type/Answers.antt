use Rattle.std.proofs.Common.{sym, ◌∙◌, subst}
use Rattle.hol_check_rules.specs.State.{theory_in}
use Rattle.hol_check_lines.specs.NewNames.{FindsNewName}
use Rattle.hol_check_lines.proofs.EntryLineLemmas.{new-type, full-type}
use Rattle.hol_check_lines.proofs.entry_lines.judge_new_type.Goals as goal

pub returns-then-is_full : goal.returns-then-is_full
returns-then-is_full c =
    let found = subst (FindsNewName c.is_declared_type_name-is_legal.result (theory_in c.args.terms.now c.args.contents.now.entries.items) c.args.name.now
    c.new_name.new.terms.names) c.in-Some.is c.in_ok-number.ensures.found in
    full-type c.args.terms.now c.new_name.new.terms c.args.contents.now c.requires c.args.name.now c.in-Some.number c.in_ok-number.ensures.grows
    found.named (sym c.is_of_first_version.ensures ∙ c.if-is_of_first_version.false)
    (sym c.is_declared_type_name-is_legal.ensures ∙ found.legal) found.new (sym c.is_full.ensures ∙ c.if-is_full.true)

pub returns : goal.returns
returns c =
    let found = subst (FindsNewName c.is_declared_type_name-is_legal.result (theory_in c.args.terms.now c.args.contents.now.entries.items) c.args.name.now
    c.new_name.new.terms.names) c.in-Some.is c.in_ok-number.ensures.found in
    new-type c.args.terms.now c.new_name.new.terms c.args.contents.now c.requires c.args.name.now c.in-Some.number c.in_ok-number.ensures.grows
    found.named (sym c.is_of_first_version.ensures ∙ c.if-is_of_first_version.false)
    (sym c.is_declared_type_name-is_legal.ensures ∙ found.legal) found.new (sym c.is_full.ensures ∙ c.if-is_full.false)
