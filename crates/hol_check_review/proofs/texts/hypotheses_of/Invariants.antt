use Rattle.std.proofs.Common.{take}
use Rattle.hol_syntax.specs.Scope.{scope_of}
use Rattle.hol_check_review.specs.Reviews.{AreNamedFormulas}
use Rattle.hol_check_review.proofs.texts.hypotheses_of.Given as goal

abbrev pub invariant-loop-place : goal.invariant-loop-place
invariant-loop-place l = AreNamedFormulas (scope_of l.scope) (take l.place l.claim.sequent.hypotheses) l.hyps.items
