-- The steps of the code as steps with the steps of their types.
use Rattle.std.specs.Prelude.{List, map}
use Rattle.hol_syntax_grammar.specs.declared.steps.TermStep.{TermStep}
use Rattle.hol_syntax_grammar.specs.declared.steps.TermStep.TheVariants.{Bare, Variable, Constant, Apply, Not, Join, Enter, Leave}
use Rattle.hol_syntax_grammar.specs.Grammar.{infix_here, binder_here}
use Rattle.hol_syntax_grammar.specs.Views.{steps_of}
use Rattle.hol_syntax_grammar.specs.TermSteps.{FlatStep, FlatBare, FlatVariable, FlatConstant, FlatApply, FlatNot, FlatJoin, FlatEnter, FlatLeave}

abbrev pub flat_step_of : TermStep → FlatStep
flat_step_of (Bare name) = FlatBare name.now
flat_step_of (Variable name types) = FlatVariable name.now (steps_of types.items)
flat_step_of (Constant name types) = FlatConstant name.now (steps_of types.items)
flat_step_of Apply = FlatApply
flat_step_of Not = FlatNot
flat_step_of (Join operation) = FlatJoin (infix_here operation)
flat_step_of (Enter name types) = FlatEnter name.now (steps_of types.items)
flat_step_of (Leave quantifier) = FlatLeave (binder_here quantifier)

abbrev pub flat_steps_of : List TermStep → List FlatStep
flat_steps_of steps = map flat_step_of steps
