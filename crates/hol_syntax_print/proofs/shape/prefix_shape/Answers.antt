use Rattle.std.proofs.Common.{ap, arith, sym, ◌∙◌}
use Rattle.hol_model.specs.Texts.Printing.{prefix_tree}
use Rattle.hol_model.specs.Texts.Printing.{term_tree}
use Rattle.hol_syntax_grammar.specs.Grammar.{binder_here}
use Rattle.hol_syntax_print.specs.Shape.{prefix_here}
use Rattle.hol_syntax_print.proofs.Shapes.{applied_to_other, other_parts}
use Rattle.hol_syntax_print.proofs.shape.prefix_shape.Goals as goal

pub returns-in_default : goal.returns-in_default
returns-in_default c = record {
  tree = λ scope bindings.
      applied_to_other c.args.argument.now (other_parts c.parts.result c.args.argument.now c.parts.ensures.value c.in_default.not-Abstraction) scope bindings
      (binder_here c.in-Quantifier.binder) (term_tree scope bindings c.args.function.now)
      ∙ ap (λ p. prefix_tree (prefix_here p) (term_tree scope bindings c.args.function.now) (term_tree scope bindings c.args.argument.now)) (sym c.in-Quantifier.is);
  named = tt;
  parts = omega arith;
}
