use Rattle.std.proofs.Common.{◌≡◌, List, drop}
use Rattle.hol_model.specs.Texts.TermGrammar.{TermTree}
use Rattle.hol_model.specs.Texts.SequentGrammar.{formulas_meaning}
use Rattle.hol_syntax.specs.Scope.{scope_of}
use Rattle.hol_syntax.specs.SequentStates.{AreSteps}
use Rattle.hol_syntax.proofs.Formulas.{behind}
use Rattle.hol_syntax.proofs.sequents.formulas_of_steps.Given as goal

-- the trees mean what is made, and behind it what the other trees mean
abbrev pub invariant-loop-steps : goal.invariant-loop-steps
invariant-loop-steps l = (trees : List TermTree) → AreSteps l.parsed trees
    → formulas_meaning (scope_of l.scope) trees ≡ behind l.terms.items (formulas_meaning (scope_of l.scope) (drop l.steps-index trees))
