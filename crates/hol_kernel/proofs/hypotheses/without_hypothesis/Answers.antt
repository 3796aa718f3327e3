use Rattle.std.proofs.Common.{◌≡◌, ◌+◌, ◌++◌, take, drop, not, rules}
use Rattle.hol_model.specs.Kernel.Theorem.{AreOrdered, are_alpha_equivalent, without_hypothesis}
use Rattle.hol_kernel.proofs.OrderLemmas.{kept-ordered}
use Rattle.hol_kernel.proofs.PlaceLemmas.{without_hypothesis-there, without_hypothesis-absent}
use Rattle.hol_kernel.proofs.hypotheses.without_hypothesis.Goals as goal

pub returns-in-Ok-clause-ok : goal.returns-in-Ok-clause-ok
returns-in-Ok-clause-ok c = rw (without_hypothesis-there c.args.term.now c.args.hypotheses.now c.in-Ok.index c.requires c.in-Ok.ensures.place) c.without_index.ensures.ok

pub returns-in-Ok-clause-ordered : goal.returns-in-Ok-clause-ordered
returns-in-Ok-clause-ordered c =
    let there : without_hypothesis c.args.term.now c.args.hypotheses.now ≡ take c.in-Ok.index c.args.hypotheses.now ++ drop (c.in-Ok.index + 1) c.args.hypotheses.now =
    without_hypothesis-there c.args.term.now c.args.hypotheses.now c.in-Ok.index c.requires c.in-Ok.ensures.place in
    let ordered : AreOrdered (take c.in-Ok.index c.args.hypotheses.now ++ drop (c.in-Ok.index + 1) c.args.hypotheses.now) =
    rw there at (kept-ordered (λ hypothesis. not (are_alpha_equivalent hypothesis c.args.term.now)) c.args.hypotheses.now c.requires) in
    search rules

pub returns-in-Err-clause-ok : goal.returns-in-Err-clause-ok
returns-in-Err-clause-ok c = rw (without_hypothesis-absent c.args.term.now c.args.hypotheses.now c.in-Err.field-0 c.requires c.in-Err.ensures.place) c.copies.ensures.ok
