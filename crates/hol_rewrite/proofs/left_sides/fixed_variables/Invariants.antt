use Rattle.std.proofs.Common.{◌≡◌, take}
use Rattle.hol_model.specs.Rewrites.Rewriting.{fixed_variables}
use Rattle.hol_rewrite.proofs.left_sides.fixed_variables.Given as goal

abbrev pub invariant-loop-hypothesis : goal.invariant-loop-hypothesis
invariant-loop-hypothesis l = l.fixed.items ≡ fixed_variables (take l.hypothesis-index l.hypotheses)
