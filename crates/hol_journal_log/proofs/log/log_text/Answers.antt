use Rattle.hol_journal_log.specs.Claims.{claims_of}
use Rattle.hol_journal_log.proofs.LogTextLemmas.{text_pruned, text_accepted}
use Rattle.hol_journal_log.proofs.log.log_text.Goals as goal

pub returns-clause-pruned : goal.returns-clause-pruned
returns-clause-pruned c = text_pruned c.args.recorder.now (claims_of c.args.claims.now) c.pruned_text.result c.pruned_text.ensures.ok

pub returns-clause-accepted : goal.returns-clause-accepted
returns-clause-accepted c =
    text_accepted c.args.recorder.now (claims_of c.args.claims.now) c.pruned_text.result c.journal_logs_are_accepted.ensures c.logs_read_back.ensures
    c.stored-entry.ensures.journal c.requires c.claims_fit.ensures c.pruned_text.ensures.ok c.pruned_text.ensures.within_limit
