use Rattle.std.proofs.Common.{sym, ◌∙◌, ap}
use Rattle.std.proofs.lemmas.Option.{get_or_from_slice_get}
use Rattle.hol_model.specs.Logic.Legality.{is_new_name}
use Rattle.hol_check_rules.specs.State.{theory_in}
use Rattle.hol_check_terms.proofs.TableLemmas.{is_within}
use Rattle.hol_check_rules.proofs.StateLemmas.{knows-grown}
use Rattle.hol_check_lines.proofs.EntryLineLemmas.{no-second}
use Rattle.hol_check_lines.proofs.entry_lines.new_name.Goals as goal

pub is_new_name-requires : goal.is_new_name-requires
is_new_name-requires c = is_within c.name.new.self.names c.in_ok-number.number _ c.in_ok-number.ensures.number

pub returns-then-is_new_name-clause-found : goal.returns-then-is_new_name-clause-found
returns-then-is_new_name-clause-found c = record {
  legal = c.if-not-is_legal.false;
  new = sym (c.is_new_name.ensures _ (knows-grown c.args.terms.now c.name.new.self c.in_ok-number.ensures.grows _ _ _ c.requires.knows)) ∙ c.if-is_new_name.true;
  named = c.in_ok-number.ensures.number;
}

pub returns-else-is_new_name-clause-found : goal.returns-else-is_new_name-clause-found
returns-else-is_new_name-clause-found c =
    let entries = theory_in c.args.terms.now c.args.contents.now.entries.items in
    no-second c.args.is_legal (is_new_name entries c.args.name.now)
    (ap (is_new_name entries) (sym (get_or_from_slice_get c.name.new.self.names c.in_ok-number.number c.args.name.now _ c.in_ok-number.ensures.number))
    ∙ (sym (c.is_new_name.ensures _ (knows-grown c.args.terms.now c.name.new.self c.in_ok-number.ensures.grows _ _ _ c.requires.knows)) ∙ c.if-is_new_name.false))
