use Rattle.std.proofs.Common.{◌≡◌, drop}
use Rattle.hol_syntax_grammar.specs.Lexer.{symbol_at}
use Rattle.hol_syntax_grammar.proofs.lexer.find_symbol.Given as goal

abbrev pub invariant-loop-symbol : goal.invariant-loop-symbol
invariant-loop-symbol l = symbol_at (drop l.symbol-index l.table) l.bytes ≡ symbol_at l.table l.bytes
