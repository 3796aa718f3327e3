-- The claims that the code holds.
use Rattle.std.specs.Prelude.{List, map}
use Rattle.hol_journal_log.specs.LogWriting.{Claimed}
use Rattle.hol_journal_log.specs.declared.claim.Claim.{Claim}

abbrev pub claim_of : Claim → Claimed
claim_of claim = record { name = claim.name.now; made = claim.theorem.now }

abbrev pub claims_of : List Claim → List Claimed
claims_of claims = map claim_of claims
