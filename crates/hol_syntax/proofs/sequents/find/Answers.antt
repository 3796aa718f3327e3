use Rattle.std.proofs.Common.{sym, ◌∙◌}
use Rattle.hol_syntax.proofs.Found.{found_at, without_more}
use Rattle.hol_syntax.proofs.sequents.find.Goals as goal

pub returns-then-separates : goal.returns-then-separates
returns-then-separates c = found_at c.args.separator c.args.tokens.now c.loop-i.i _ c.loop-i-test.true (sym c.separates.ensures ∙ c.if-separates.true) c.loop-i.invariant

pub loop-i-preserved : goal.loop-i-preserved
loop-i-preserved c = without_more c.args.separator c.args.tokens.now c.loop-i.i _ c.loop-i-test.true (sym c.separates.ensures ∙ c.if-separates.false) c.loop-i.invariant
