use Rattle.std.proofs.Common.{◌≡◌, ◌++◌, [], drop, sym, ap, ◌∙◌, arith}
use Rattle.std.proofs.lemmas.List.{drop_all}
use Rattle.hol_model.specs.Kernel.Theorem.{with_hypotheses}
use Rattle.hol_kernel.proofs.OrderLemmas.{merge-none}
use Rattle.hol_kernel.proofs.hypotheses.with_few_old.Goals as goal

pub returns-clause-ok : goal.returns-clause-ok
returns-clause-ok c =
    let none : drop c.loop-old.old-index c.args.first.now ≡ [] = drop_all c.loop-old.old-index c.args.first.now (omega arith) in
    c.in_ok-push_copies.ensures.ok ∙ ap (λ l. c.loop-old.all.items ++ l) (sym (merge-none c.loop-old.rest.now c.loop-old.invariant.0))
    ∙ ap (λ l. c.loop-old.all.items ++ with_hypotheses l c.loop-old.rest.now) (sym none) ∙ c.loop-old.invariant.1
