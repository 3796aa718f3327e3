use Rattle.std.proofs.Common.{arith}
use Rattle.hol_syntax_grammar.specs.Views.{tokens_of}
use Rattle.hol_tactic_grammar.specs.Tokens.{behind}
use Rattle.hol_tactic_grammar.specs.OpenTactics.{opens_of}
use Rattle.hol_tactic_grammar.proofs.OpenTacticLemmas.{unit-joins}
use Rattle.hol_tactic_grammar.proofs.tactic_reader.choice_with.Goals as goal

pub returns-in-Ok : goal.returns-in-Ok
returns-in-Ok c = λ reader tokens has. (
  unit-joins (opens_of reader) reader.room (tokens_of tokens) (behind c.args.next tokens) c.args.first c.args.unit c.args.others c.add.new.items.items c.in-Ok.ensures has,
  omega arith,
)
