use Rattle.hol_tactic_grammar.proofs.QuoteLemmas.{unquoted-from, unquoted-more, unquoted-all}
use Rattle.hol_tactic_grammar.proofs.quotes.find_quote.Goals as goal

pub loop-end-init : goal.loop-end-init
loop-end-init c = unquoted-from c.args.at c.args.tokens.now

pub loop-end-preserved : goal.loop-end-preserved
loop-end-preserved c = unquoted-more c.args.at c.loop-end.end c.args.tokens.now c.loop-end.invariant c.loop-end-test.true c.if-is_mark.ensures

pub returns-then-is_mark : goal.returns-then-is_mark
returns-then-is_mark c = (c.loop-end.invariant, c.if-is_mark.ensures)

pub returns : goal.returns
returns c = unquoted-all c.args.at c.loop-end.end c.args.tokens.now c.loop-end.invariant c.loop-end-test.false
