use Rattle.std.proofs.Common.{length, refl, sym, ◌∙◌, ap, subst}
use Rattle.hol_model.specs.Logic.Theory.{IsEarlier}
use Rattle.hol_journal.specs.Journal.{Journal}
use Rattle.hol_journal.specs.Recorder.{viewed_recorder}
use Rattle.hol_journal.proofs.StoredLemmas.{defined_entry, definition-stored, definition-listed}
use Rattle.hol_journal.proofs.recorder.Recorder.define.Goals as goal

pub invariant_of-self-2 : goal.invariant_of-self-2
invariant_of-self-2 c =
    definition-stored (viewed_recorder c.self.inside) c.define.new.self c.reserve.new.self.entries c.push.new.self.entries _
    c.args.name.now c.args.term.now c.ty-type.result.now c.in_ok-theorem.theorem c.self.invariant c.reserve.ensures.same c.push.ensures
    c.ty-type.ensures c.in_ok-theorem.ensures.outcome c.within_limits.ensures c.well_formed-2.ensures.within_limits c.in_ok-theorem.ensures.grown
    (λ i. defined_entry (c.in_ok-from_str.ensures.ok i) (c.in_ok-copy.ensures.ok i))

pub returns-clause-recorded : goal.returns-clause-recorded
returns-clause-recorded c = record {
  entries = definition-listed (viewed_recorder c.self.inside) c.args.self.now c.reserve.new.self.entries c.push.new.self.entries _
      c.args.name.now c.args.term.now c.in_ok-theorem.theorem c.self.view_is c.reserve.ensures.same c.push.ensures
      c.in_ok-theorem.ensures.outcome (λ i. defined_entry (c.in_ok-from_str.ensures.ok i) (c.in_ok-copy.ensures.ok i));
  number = c.len-number.ensures ∙ ap length c.reserve.ensures.same ∙ ap (λ (j : Journal). length j.entries) c.self.view_is;
  stands_on = sym c.in_ok-theorem.ensures.grown;
  earlier = subst (λ (j : Journal). IsEarlier j.theory c.define.new.self) c.self.view_is c.in_ok-theorem.ensures.earlier;
}
