use Rattle.std.proofs.Common.{◌≡◌, [], drop}
use Rattle.hol_model.specs.Kernel.Theorem.{AreOrdered}
use Rattle.hol_model.specs.Kernel.Theorem as spec
use Rattle.hol_kernel.proofs.hypotheses.in_order.Given as goal

-- the rest of the terms, put into what is there, gives the same as all of them
abbrev pub invariant-loop-new : goal.invariant-loop-new
invariant-loop-new l = AreOrdered l.all.items × (spec.with_hypotheses l.all.items (drop l.new-index l.terms) ≡ spec.with_hypotheses [] l.terms)
