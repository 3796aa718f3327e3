use Rattle.std.proofs.Common.{ap, ◌∙◌, subst, ◌≡◌}
use Rattle.hol_model.specs.Terms.NamedTerm.{combination}
use Rattle.hol_model.specs.Texts.Printing.{apply_tree, prefix_tree, term_tree}
use Rattle.hol_syntax_grammar.specs.Grammar.{infix_here}
use Rattle.hol_syntax_print.proofs.Shapes.{applied_variable, applied_abstraction, applied_constant, applied_infix, applied_no_infix, applied_other}
use Rattle.hol_syntax_print.proofs.shape.combination_shape.Goals as goal

pub returns-in-Variable-clause-tree : goal.returns-in-Variable-clause-tree
returns-in-Variable-clause-tree c = λ scope bindings. applied_variable c.args.function.now c.args.argument.now _ _ c.in-Variable.ensures.value scope bindings

pub returns-in-Abstraction-clause-tree : goal.returns-in-Abstraction-clause-tree
returns-in-Abstraction-clause-tree c = λ scope bindings.
    applied_abstraction c.args.function.now c.args.argument.now _ _ _ c.in-Abstraction.ensures.value scope bindings

pub returns-in-Constant-clause-tree : goal.returns-in-Constant-clause-tree
returns-in-Constant-clause-tree c = λ scope bindings.
    c.prefix_shape.ensures.tree scope bindings
    ∙ ap (λ p. prefix_tree p (term_tree scope bindings c.args.function.now) (term_tree scope bindings c.args.argument.now)) c.prefix_of.ensures
    ∙ applied_constant c.args.function.now c.args.argument.now c.in-Constant.name.now c.in-Constant.ty.now c.in-Constant.ensures.value scope bindings

pub returns-in-Some-infix_of-clause-tree : goal.returns-in-Some-infix_of-clause-tree
returns-in-Some-infix_of-clause-tree c = λ scope bindings.
    applied_infix c.in-Combination.operator.now c.in-Combination.left.now c.args.argument.now c.in-Some.name.now c.in-Some.ty.now
    (infix_here c.in-Some-infix_of.operation) c.in-Some.ensures c.in-Some-infix_of.ensures scope bindings
    ∙ ap (λ f. term_tree scope bindings (combination f c.args.argument.now)) c.in-Combination.ensures.value

pub returns-in-None-infix_of-clause-tree : goal.returns-in-None-infix_of-clause-tree
returns-in-None-infix_of-clause-tree c = λ scope bindings.
    subst (λ f. apply_tree (term_tree scope bindings f) (term_tree scope bindings c.args.argument.now) ≡ term_tree scope bindings (combination f c.args.argument.now))
    c.in-Combination.ensures.value
    (applied_no_infix c.in-Combination.operator.now c.in-Combination.left.now c.args.argument.now c.in-Some.name.now c.in-Some.ty.now
    c.in-Some.ensures c.in-None-infix_of.ensures scope bindings)

pub returns-in-None-clause-tree : goal.returns-in-None-clause-tree
returns-in-None-clause-tree c = λ scope bindings.
    subst (λ f. apply_tree (term_tree scope bindings f) (term_tree scope bindings c.args.argument.now) ≡ term_tree scope bindings (combination f c.args.argument.now))
    c.in-Combination.ensures.value
    (applied_other c.in-Combination.operator.now c.in-Combination.left.now c.args.argument.now c.in-None.ensures scope bindings)
