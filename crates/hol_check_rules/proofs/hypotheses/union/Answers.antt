use Rattle.std.proofs.Common.{◌≡◌, ◌⊎◌, ◌≤◌, ◌++◌, length, drop, get_or, inl, inr, arith, ap, ◌∙◌, take, ◌-◌}
use Rattle.std.proofs.lemmas.List.{take_all, length-drop}
use Rattle.std.specs.declared.cmp.Ordering.TheVariants.{Less, Equal, Greater}
use Rattle.hol_model.specs.Terms.Nameless.{nameless_cmp}
use Rattle.hol_check_terms.specs.Terms.{term_at}
use Rattle.hol_check_rules.proofs.OrderLemmas.{merged-before, merged-same, merged-after, merged-last}
use Rattle.hol_check_rules.proofs.hypotheses.union.Goals as goal
use Rattle.hol_check_rules.proofs.hypotheses.union.Goals.{then-loop-left-test+else-right-second, else-loop-left-test}

pub loop-left-preserved-in-Less : goal.loop-left-preserved-in-Less
loop-left-preserved-in-Less c =
    let terms = c.args.terms.now.terms in
    let order : nameless_cmp (term_at terms (get_or c.args.first.now c.loop-left.left 0)) (term_at terms (get_or c.args.second.now c.loop-left.right 0)) ≡ Less =
    cc (c.compare_terms.ensures, c.in-Less.is) in
    rw c.in_ok-push-in-Less.ensures.items
    (merged-before terms c.args.first.now c.args.second.now (record { first_fits = c.requires.first; second_fits = c.requires.second; ordered = c.requires.second_ordered }) c.loop-left.left
    c.loop-left.right c.loop-left.all.items c.loop-left.invariant
    (omega arith) (omega arith) order)

pub loop-left-preserved-in-Equal : goal.loop-left-preserved-in-Equal
loop-left-preserved-in-Equal c =
    let terms = c.args.terms.now.terms in
    let order : nameless_cmp (term_at terms (get_or c.args.first.now c.loop-left.left 0)) (term_at terms (get_or c.args.second.now c.loop-left.right 0)) ≡ Equal =
    cc (c.compare_terms.ensures, c.in-Equal.is) in
    rw c.in_ok-push-in-Equal.ensures.items
    (merged-same terms c.args.first.now c.args.second.now (record { first_fits = c.requires.first; second_fits = c.requires.second; ordered = c.requires.second_ordered }) c.loop-left.left
    c.loop-left.right c.loop-left.all.items c.loop-left.invariant
    (omega arith) (omega arith) order)

pub loop-left-preserved : goal.loop-left-preserved
loop-left-preserved c =
    let terms = c.args.terms.now.terms in
    let order : nameless_cmp (term_at terms (get_or c.args.first.now c.loop-left.left 0)) (term_at terms (get_or c.args.second.now c.loop-left.right 0)) ≡ Greater =
    cc (c.compare_terms.ensures, c.in-Greater.is) in
    rw c.in_ok-push-in-Greater.ensures.items
    (merged-after terms c.args.first.now c.args.second.now (record { first_fits = c.requires.first; second_fits = c.requires.second; ordered = c.requires.second_ordered }) c.loop-left.left
    c.loop-left.right c.loop-left.all.items c.loop-left.invariant
    (omega arith) (omega arith) order)

pub returns-clause-all : goal.returns-clause-all
returns-clause-all c =
    let terms = c.args.terms.now.terms in
    let used : (length c.args.first.now ≤ c.loop-left.left) ⊎ (length c.args.second.now ≤ c.loop-left.right) =
    elim c.loop-left-test.branch [ then-loop-left-test+else-right-second w ↦ inr w.if-right-second.false | else-loop-left-test w ↦ inl w.loop-left-test.false ] in
    let one : take (length c.args.first.now - c.loop-left.left) (drop c.loop-left.left c.args.first.now) ≡ drop c.loop-left.left c.args.first.now =
    take_all _ _ (omega (arith, length-drop c.loop-left.left c.args.first.now)) in
    let two : take (length c.args.second.now - c.loop-left.right) (drop c.loop-left.right c.args.second.now) ≡ drop c.loop-left.right c.args.second.now =
    take_all _ _ (omega (arith, length-drop c.loop-left.right c.args.second.now)) in
    let items : c.extend_from_slice-2.new.self.items ≡ (c.loop-left.all.items ++ drop c.loop-left.left c.args.first.now) ++ drop c.loop-left.right c.args.second.now =
    c.in_ok-extend_from_slice-2.ensures.items ∙ (λ i. c.in_ok-extend_from_slice.ensures.items i ++ two i) ∙ ap (λ l. (c.loop-left.all.items ++ l) ++ drop c.loop-left.right c.args.second.now) one in
    rw items (merged-last terms c.args.first.now c.args.second.now c.loop-left.left c.loop-left.right c.loop-left.all.items
    (record { first_fits = c.requires.first; second_fits = c.requires.second; ordered = c.requires.second_ordered }) c.requires.first_ordered c.loop-left.invariant used)
