use Rattle.std.proofs.Common.{◌≡◌, map, take, string_bytes}
use Rattle.hol_theorem_store.specs.Store.{stored_of}
use Rattle.hol_journal_log.specs.Claims.{claims_of}
use Rattle.hol_script_session.proofs.stored_claims.claims.Given as goal
use Rattle.hol_script_session.specs.StoredClaims.{stored_claims}

-- the names so far have their claims
abbrev pub invariant-loop-name : goal.invariant-loop-name
invariant-loop-name l = claims_of l.claims.items ≡ stored_claims ((stored_of l.store).theorems) (map string_bytes (take l.name-index l.names))
