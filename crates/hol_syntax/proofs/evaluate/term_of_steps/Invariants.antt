use Rattle.std.proofs.Common.{◌≡◌, List, drop}
use Rattle.hol_syntax.specs.Scope.{scope_of}
use Rattle.hol_syntax_grammar.specs.Steps.{flat_steps_of}
use Rattle.hol_syntax_grammar.specs.TermSteps.{TermStep, flat_steps}
use Rattle.hol_syntax.proofs.TermEvaluation.{IsUnderway}
use Rattle.hol_syntax.proofs.evaluate.term_of_steps.Given as goal

-- whatever the steps stand for, the rest of it is left
abbrev pub invariant-loop-step : goal.invariant-loop-step
invariant-loop-step l = (whole : List TermStep) → flat_steps_of l.steps ≡ flat_steps whole
    → (rest : List TermStep) × (drop l.step-index (flat_steps_of l.steps) ≡ flat_steps rest) × IsUnderway (scope_of l.scope) l.evaluator rest whole
