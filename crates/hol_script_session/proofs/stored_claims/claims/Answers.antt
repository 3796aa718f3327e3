use Rattle.std.proofs.Common.{Some, None, sym, ap, ◌∙◌, append-nil, Bor}
use Rattle.std.specs.Option.{option_map}
use Rattle.hol_journal.specs.Journal.{Recorded}
use Rattle.hol_theorem_store.specs.Store.{stored_of}
use Rattle.hol_journal_log.specs.Claims.{claims_of}
use Rattle.hol_script_session.proofs.stored_claims.claims.Goals as goal
use Rattle.hol_script_session.proofs.stored_claims.claims.Goals.{in-Some+in_ok-push, in_default}
use Rattle.hol_script_session.proofs.ClaimLemmas.{further_claims, pushed_claim}

pub loop-name-preserved : goal.loop-name-preserved
loop-name-preserved c =
    let stored = (stored_of c.args.store.now).theorems in
    elim c.match-get.branch [
      | in-Some+in_ok-push w ↦ rw w.claims-is
          (further_claims stored c.args.names.now c.loop-name.name-index c.name-item.result c.as_str-name.result.now (Some w.in-Some.theorem.now)
          (claims_of c.loop-name.claims.items) _ c.loop-name-test.true c.name-item.is
          c.as_str-name.ensures.value (sym w.in-Some.ensures.found) c.loop-name.invariant (pushed_claim c.loop-name.claims.items w.push.new.self.items _ w.in_ok-push.ensures.items))
      | in_default w ↦ rw w.claims-is
          (further_claims stored c.args.names.now c.loop-name.name-index c.name-item.result c.as_str-name.result.now None
          (claims_of c.loop-name.claims.items) _ c.loop-name-test.true c.name-item.is
          c.as_str-name.ensures.value (sym c.get.ensures.found
          ∙ ap (option_map (λ (made : Bor Recorded). made.now)) w.in_default.is) c.loop-name.invariant
          (sym (append-nil (claims_of c.loop-name.claims.items))))
    ]
