use Rattle.std.proofs.Common.{◌≡◌, List, ℕ, length}
use Rattle.hol_model.specs.Texts.Lexing.{is_blank}
use Rattle.hol_syntax_grammar.specs.Lexer.{back}
use Rattle.hol_syntax_grammar.specs.Views.{tokens_of}
use Rattle.hol_syntax_grammar.proofs.Lexing.{IsLexedTo}
use Rattle.hol_syntax_grammar.proofs.lexer.tokens_in.Given as goal

abbrev pub invariant-loop-rest : goal.invariant-loop-rest
invariant-loop-rest l = (bytes : List ℕ) × IsLexedTo l.fn.text (tokens_of l.tokens.items) bytes × (l.rest ≡ back is_blank bytes)

abbrev pub decreases-loop-rest : goal.decreases-loop-rest
decreases-loop-rest l = length l.rest
