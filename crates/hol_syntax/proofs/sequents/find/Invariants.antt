use Rattle.std.proofs.Common.{take}
use Rattle.hol_syntax_grammar.specs.Views.{tokens_of}
use Rattle.hol_syntax.specs.SequentStates.{separates, Without}
use Rattle.hol_syntax.proofs.sequents.find.Given as goal

abbrev pub invariant-loop-i : goal.invariant-loop-i
invariant-loop-i l = Without (separates l.separator) (take l.i (tokens_of l.tokens))
