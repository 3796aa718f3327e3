use Rattle.std.proofs.Common.{◌≡◌, ◌++◌, take, drop}
use Rattle.hol_syntax_grammar.specs.Lexer.{front, back}
use Rattle.hol_syntax_grammar.specs.Classes.{test_of}
use Rattle.hol_syntax_grammar.proofs.lexer.split.Given as goal

abbrev pub invariant-loop-i : goal.invariant-loop-i
invariant-loop-i l = record {
  front : front (test_of l.class) l.bytes ≡ take l.i l.bytes ++ front (test_of l.class) (drop l.i l.bytes);
  back : back (test_of l.class) l.bytes ≡ back (test_of l.class) (drop l.i l.bytes);
}
