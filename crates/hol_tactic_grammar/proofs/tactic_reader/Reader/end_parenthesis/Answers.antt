use Rattle.std.proofs.Common.{◌∷◌, arith}
use Rattle.hol_syntax_grammar.specs.Views.{tokens_of}
use Rattle.hol_tactic_grammar.specs.declared.tactic_reader.Open.TheVariants.{Enclosed}
use Rattle.hol_tactic_grammar.specs.Expressions.{expression_here}
use Rattle.hol_tactic_grammar.specs.OpenTactics.{opens_of}
use Rattle.hol_tactic_grammar.proofs.OpenTacticLemmas.{room-within, whole-encloses, whole-unclosed}
use Rattle.hol_tactic_grammar.proofs.tactic_reader.Reader.end_parenthesis.Goals as goal

pub returns-then-not-is_mark : goal.returns-then-not-is_mark
returns-then-not-is_mark c =
    let reader = c.args.self.now in
    whole-unclosed (opens_of reader) reader.room c.args.next c.args.tokens.now (expression_here c.args.tactic) c.requires c.if-not-is_mark.ensures

pub overflow_add-self : goal.overflow_add-self
overflow_add-self c =
    let reader = c.args.self.now in
    omega (arith, room-within (Enclosed ∷ opens_of reader) reader.room (tokens_of c.args.tokens.now) c.requires.tokens c.requires.opened)

pub returns : goal.returns
returns c =
    let reader = c.args.self.now in
    let tokens = c.args.tokens.now in (
      whole-encloses (opens_of reader) reader.room c.args.next (tokens_of tokens) (expression_here c.args.tactic) tokens c.requires c.if-not-is_mark.ensures,
      omega (arith, c.if-not-is_mark.ensures.within),
    )
