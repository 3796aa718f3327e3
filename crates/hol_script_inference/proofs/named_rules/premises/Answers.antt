use Rattle.std.proofs.Common.{Bor, ℕ, ◌+◌, List, drop, sym, subst}
use Rattle.hol_journal.specs.Journal.{Recorded}
use Rattle.hol_just_replay.specs.Outcomes.{AreLent}
use Rattle.hol_theorem_store.specs.Store.{stored_of}
use Rattle.hol_script_session.proofs.BeginningLemmas.{item-at}
use Rattle.hol_script_inference.proofs.NamedLemmas.{IsFoundTo, found-further, lent-further}
use Rattle.hol_script_inference.proofs.named_rules.premises.Goals as goal

pub loop-name-preserved : goal.loop-name-preserved
loop-name-preserved c =
    let stored = stored_of c.args.store.now in
    let names = c.args.names.now in
    let at = c.loop-name.name-index in
    let found = c.loop-name.premises.items in
    let premise = c.in-Some.premise in
    let under = subst (λ (left : List (Bor (List ℕ))). IsFoundTo stored left found names) (item-at names at _ c.loop-name-test.true) c.loop-name.invariant.0 in (
      subst (λ (done : List (Bor Recorded)). IsFoundTo stored (drop (at + 1) names) done names) (sym c.in_ok-push.ensures.items)
          (found-further stored _ (drop (at + 1) names) found premise names under c.in-Some.ensures.found),
      λ journal of. subst (λ (done : List (Bor Recorded)). AreLent journal done) (sym c.in_ok-push.ensures.items)
          (lent-further journal found premise (c.loop-name.invariant.1 journal of) (c.in-Some.ensures.made journal of)),
    )
