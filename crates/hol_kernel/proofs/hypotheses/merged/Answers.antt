use Rattle.std.proofs.Common.{◌≡◌, ◌⊎◌, ◌≤◌, ◌++◌, [], ◌∷◌, length, drop, inl, inr, arith, ap, ◌∙◌, take, ◌-◌}
use Rattle.std.proofs.lemmas.List.{take_all, length-drop}
use Rattle.std.specs.declared.cmp.Ordering.TheVariants.{Less, Equal, Greater}
use Rattle.hol_model.specs.Terms.Nameless.{image, nameless_cmp}
use Rattle.hol_kernel.proofs.OrderLemmas.{merged-before, merged-same, merged-after, merged-last}
use Rattle.hol_kernel.proofs.hypotheses.merged.Goals as goal
use Rattle.hol_kernel.proofs.hypotheses.merged.Goals.{then-loop-left-test+else-right-second, else-loop-left-test}

pub loop-left-preserved-in-Less : goal.loop-left-preserved-in-Less
loop-left-preserved-in-Less c =
    let order : nameless_cmp (image c.index-first-left.result) (image c.index-second-right.result) ≡ Less = cc (c.alpha_cmp.ensures, c.in-Less.is) in
    let items : c.push_copy.new.all.items ≡ c.loop-left.all.items ++ c.index-first-left.result ∷ [] = c.in_ok-push_copy-in-Less.ensures.ok in
    rw items
    (merged-before c.args.first.now c.args.second.now c.requires c.loop-left.left c.loop-left.right c.loop-left.all.items c.loop-left.invariant c.index-first-left.result c.index-second-right.result
    (omega arith) (omega arith) c.index-first-left.is c.index-second-right.is order)

pub loop-left-preserved-in-Equal : goal.loop-left-preserved-in-Equal
loop-left-preserved-in-Equal c =
    let order : nameless_cmp (image c.index-first-left.result) (image c.index-second-right.result) ≡ Equal = cc (c.alpha_cmp.ensures, c.in-Equal.is) in
    let items : c.push_copy-in-Equal.new.all.items ≡ c.loop-left.all.items ++ c.index-first-left.result ∷ [] = c.in_ok-push_copy-in-Equal.ensures.ok in
    rw items
    (merged-same c.args.first.now c.args.second.now c.requires c.loop-left.left c.loop-left.right c.loop-left.all.items c.loop-left.invariant c.index-first-left.result c.index-second-right.result
    (omega arith) (omega arith) c.index-first-left.is c.index-second-right.is order)

pub loop-left-preserved : goal.loop-left-preserved
loop-left-preserved c =
    let order : nameless_cmp (image c.index-first-left.result) (image c.index-second-right.result) ≡ Greater = cc (c.alpha_cmp.ensures, c.in-Greater.is) in
    let items : c.push_copy-in-Greater.new.all.items ≡ c.loop-left.all.items ++ c.index-second-right.result ∷ [] = c.in_ok-push_copy-in-Greater.ensures.ok in
    rw items
    (merged-after c.args.first.now c.args.second.now c.requires c.loop-left.left c.loop-left.right c.loop-left.all.items c.loop-left.invariant c.index-first-left.result c.index-second-right.result
    (omega arith) (omega arith) c.index-first-left.is c.index-second-right.is order)

pub returns-clause-ok : goal.returns-clause-ok
returns-clause-ok c =
    let used : (length c.args.first.now ≤ c.loop-left.left) ⊎ (length c.args.second.now ≤ c.loop-left.right) =
    elim c.loop-left-test.branch [ then-loop-left-test+else-right-second w ↦ inr w.if-right-second.false | else-loop-left-test w ↦ inl w.loop-left-test.false ] in
    let one : take (length c.args.first.now - c.loop-left.left) (drop c.loop-left.left c.args.first.now) ≡ drop c.loop-left.left c.args.first.now =
    take_all _ _ (omega (arith, length-drop c.loop-left.left c.args.first.now)) in
    let two : take (length c.args.second.now - c.loop-left.right) (drop c.loop-left.right c.args.second.now) ≡ drop c.loop-left.right c.args.second.now =
    take_all _ _ (omega (arith, length-drop c.loop-left.right c.args.second.now)) in
    let items : c.push_copies-2.new.all.items ≡ (c.loop-left.all.items ++ drop c.loop-left.left c.args.first.now) ++ drop c.loop-left.right c.args.second.now =
    c.in_ok-push_copies-2.ensures.ok ∙ (λ i. c.in_ok-push_copies.ensures.ok i ++ two i) ∙ ap (λ l. (c.loop-left.all.items ++ l) ++ drop c.loop-left.right c.args.second.now) one in
    rw items (merged-last c.args.first.now c.args.second.now c.loop-left.left c.loop-left.right c.loop-left.all.items c.requires c.loop-left.invariant used)
