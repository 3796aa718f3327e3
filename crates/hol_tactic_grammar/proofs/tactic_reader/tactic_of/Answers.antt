use Rattle.std.proofs.Common.{List, reverse, refl, sym, subst, arith}
use Rattle.hol_model.specs.declared.limits.TheConstants.{EXPRESSION_NESTING_LIMIT}
use Rattle.hol_syntax_grammar.specs.Views.{tokens_of}
use Rattle.hol_tactic_grammar.specs.declared.tactic_reader.Open.{Open}
use Rattle.hol_tactic_grammar.specs.declared.tactic_reader.Reading.{Reading}
use Rattle.hol_tactic_grammar.specs.declared.tactic_reader.Reading.TheVariants as readings
use Rattle.hol_tactic_grammar.specs.OpenTactics.{AreOpen, opens_of, IsReading}
use Rattle.hol_tactic_grammar.proofs.OpenTacticLemmas.{room-within}
use Rattle.hol_tactic_grammar.proofs.tactic_reader.tactic_of.Goals as goal

pub loop-reading-init : goal.loop-reading-init
loop-reading-init c =
    let all = tokens_of c.args.tokens.now in
    subst (λ (opens : List Open). AreOpen (reverse opens) EXPRESSION_NESTING_LIMIT all all) (sym c.new.ensures.items) (refl, refl)

pub take_unit-requires : goal.take_unit-requires
take_unit-requires c =
    let reader = c.loop-reading.reader in
    let tokens = c.args.tokens.now in
    let has : IsReading (readings.Unit c.in-Unit.unit c.in-Unit.place) reader tokens = subst (λ (r : Reading). IsReading r reader tokens) c.in-Unit.is c.loop-reading.invariant in
    omega (arith, room-within (opens_of reader) reader.room (tokens_of tokens) has.tokens has.opened)
