use Rattle.std.proofs.Common.{length}
use Rattle.hol_syntax_grammar.proofs.lexer.+strip.Given as goal

abbrev pub decreases-strip : goal.decreases-strip
decreases-strip l = length l.text.now
