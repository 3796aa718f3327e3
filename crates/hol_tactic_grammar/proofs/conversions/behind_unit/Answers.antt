use Rattle.std.proofs.Common.{reverse}
use Rattle.hol_tactic_grammar.specs.declared.conversions.Open.TheVariants.{Enclosed}
use Rattle.hol_tactic_grammar.proofs.OpenConversionLemmas.{newest, unit-goes-on, choice-closed}
use Rattle.hol_tactic_grammar.proofs.conversions.behind_unit.Goals as goal

pub returns-then-is_word : goal.returns-then-is_word
returns-then-is_word c = λ start limit held.
    let places = c.push-then-is_word.new.self.items in
    unit-goes-on c.args.parts c.args.units c.push.new.self c.args.unit (reverse c.args.places.now.items) (reverse places) c.args.next start limit c.args.tokens.now
    c.in_ok-push.ensures.items (newest c.args.places.now.items places (Enclosed c.args.parts c.push.new.self) c.in_ok-push-2.ensures.items) c.if-is_word.ensures held

pub returns : goal.returns
returns c = λ start limit held.
    c.behind_choice.ensures start limit
    (choice-closed c.args.parts c.args.units c.args.unit c.in_ok-choice.choice c.parted-first.result.0 c.push.new.self.items c.parted-first.result.1.items (reverse c.args.places.now.items)
    c.args.next start limit c.args.tokens.now c.in_ok-push.ensures.items c.parted-first.ensures c.if-is_word.ensures c.in_ok-choice.ensures held)
