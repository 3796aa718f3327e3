use Rattle.hol_journal_log.specs.Claims.{claims_of}
use Rattle.hol_journal_log.proofs.EarlierEntries.{stands-on-earlier}
use Rattle.hol_journal_log.proofs.PrunedLemmas.{cited_within}
use Rattle.hol_journal_log.proofs.pruning.pruned_text.Goals as goal

pub cited-requires-clause-earlier : goal.cited-requires-clause-earlier
cited-requires-clause-earlier c = stands-on-earlier c.args.recorder.now c.stored-entry.ensures.journal

pub cited-requires-clause-within : goal.cited-requires-clause-within
cited-requires-clause-within c =
    rw c.deref.ensures.value (cited_within c.args.recorder.now (claims_of c.args.claims.now) c.in_ok-claimed.claimed.items c.requires c.in_ok-claimed.ensures.ok)

pub needed_text-requires-clause-earlier : goal.needed_text-requires-clause-earlier
needed_text-requires-clause-earlier c = stands-on-earlier c.args.recorder.now c.stored-entry.ensures.journal
