use Rattle.std.proofs.Common.{List, reverse, refl, sym, subst}
use Rattle.hol_tactic_grammar.specs.declared.conversions.Open.{Open}
use Rattle.hol_tactic_grammar.specs.OpenConversions.{AreOpen}
use Rattle.hol_tactic_grammar.proofs.conversions.read_unit.Goals as goal

pub loop-step-init : goal.loop-step-init
loop-step-init c = record {
  room = c.args.room;
  around = subst (λ (places : List Open). AreOpen (reverse places) c.args.at c.args.room c.args.at c.args.room c.args.tokens.now) (sym c.new-places.ensures.items) (refl, refl);
}
