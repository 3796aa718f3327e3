use Rattle.std.proofs.Common.{◌≡◌, List, [], Option, None, drop}
use Rattle.hol_model.specs.Texts.TypeGrammar.{TypeTree}
use Rattle.hol_syntax_grammar.specs.TypeReader.{Pending, run}
use Rattle.hol_syntax_grammar.specs.Views.{tokens_of}
use Rattle.hol_syntax_grammar.specs.TypeStates.{IsState}
use Rattle.hol_syntax_grammar.proofs.type_reader.read_type_steps.Given as goal

-- from here on the machine answers what it answers to all tokens
abbrev pub invariant-loop-i : goal.invariant-loop-i
invariant-loop-i l = (opens : List Pending) × (current : Option TypeTree) × IsState l.reader opens current
    × (run (drop l.i (tokens_of l.tokens)) opens current ≡ run (tokens_of l.tokens) [] None)
