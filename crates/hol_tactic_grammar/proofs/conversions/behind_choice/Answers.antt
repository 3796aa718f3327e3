use Rattle.std.proofs.Common.{reverse}
use Rattle.hol_tactic_grammar.specs.declared.conversions.Open.TheVariants.{Enclosed}
use Rattle.hol_tactic_grammar.proofs.OpenConversionLemmas.{newest, choice-goes-on-at, enclosed-closed, enclosed-unclosed}
use Rattle.hol_tactic_grammar.proofs.conversions.behind_choice.Goals as goal

pub returns-then-is_word : goal.returns-then-is_word
returns-then-is_word c = λ start limit held.
    let places = c.push-then-is_word.new.self.items in
    choice-goes-on-at c.args.parts.items c.push.new.self c.new.result c.args.choice (reverse c.args.places.now.items) (reverse places) c.args.next start limit c.args.tokens.now
    c.in_ok-push.ensures.items c.new.ensures.items (newest c.args.places.now.items places (Enclosed c.push.new.self c.new.result) c.in_ok-push-2.ensures.items) c.if-is_word.ensures held

pub returns-then-not-is_mark : goal.returns-then-not-is_mark
returns-then-not-is_mark c = λ start limit held.
    enclosed-unclosed c.args.parts.items c.args.choice (reverse c.args.places.now.items) c.args.next start limit c.args.tokens.now c.if-is_word.ensures c.if-not-is_mark.ensures held

pub returns : goal.returns
returns c = λ start limit held.
    enclosed-closed c.args.parts.items c.args.choice c.in_ok-conv.conv c.parted-first.result.0 c.push.new.self.items c.parted-first.result.1.items (reverse c.args.places.now.items) c.args.next start limit
    c.args.tokens.now c.in_ok-push.ensures.items c.parted-first.ensures c.if-is_word.ensures c.if-not-is_mark.ensures c.in_ok-conv.ensures held
