use Rattle.std.proofs.Common.{arith, sym, ◌∙◌, ap, inr, refl, string_bytes, ◌<◌, ◌≤◌, length}
use Rattle.hol_prelude_derivations.proofs.DerivationLemmas.{one_more_made}
use Rattle.hol_theorem_store.specs.Store.{stored_of}
use Rattle.hol_refine.specs.Growth.{same-grown}
use Rattle.hol_refine.proofs.Gathering.{named-begin, next-named, stop-named, end-named, none-made}
use Rattle.hol_refine.proofs.naming.theorems_named.Goals as goal

pub loop-name-init : goal.loop-name-init
loop-name-init c = rw c.new-all.ensures.items (named-begin _ _, λ journal is. none-made journal)

pub loop-name-preserved : goal.loop-name-preserved
loop-name-preserved c =
    let within : c.loop-name.name-index < length c.args.names.now = omega arith in
    let found = ap (stored_of c.args.store.now).theorems (sym c.as_str.ensures.value) ∙ sym c.in-Some.ensures.found in
    rw (c.in_ok-push.ensures.items, c.in_ok-copy.ensures.ok) (
      next-named (stored_of c.args.store.now) string_bytes c.args.names.now c.loop-name.all.items c.loop-name.name-index c.name-item.result c.in-Some.theorem.now
          within c.name-item.is c.loop-name.invariant.0 found,
      λ journal is. one_more_made journal journal c.loop-name.all.items c.in-Some.theorem.now (same-grown journal) (c.loop-name.invariant.1 journal is) (c.in-Some.ensures.made journal is),
    )

pub returns-in-None-clause-err : goal.returns-in-None-clause-err
returns-in-None-clause-err c =
    let within : c.loop-name.name-index < length c.args.names.now = omega arith in
    let found = ap (stored_of c.args.store.now).theorems (sym c.as_str.ensures.value) ∙ sym c.in-None.ensures.found in
    inr (
      refl,
      stop-named (stored_of c.args.store.now) string_bytes c.args.names.now c.loop-name.all.items c.loop-name.name-index c.name-item.result within c.name-item.is
          c.loop-name.invariant.0 found,
    )

pub returns-clause-ok : goal.returns-clause-ok
returns-clause-ok c =
    let past : length c.args.names.now ≤ c.loop-name.name-index = omega arith in
    end-named (stored_of c.args.store.now) string_bytes c.args.names.now c.loop-name.all.items c.loop-name.name-index past c.loop-name.invariant.0
