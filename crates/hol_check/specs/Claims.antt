-- What a claim of a log stands for.
use Rattle.std.specs.Prelude.{◌<◌, ℕ, length}
use Rattle.std.specs.List.{slice_index_or}
use Rattle.hol_model.specs.Logs.LogState.{LogClaim}
use Rattle.hol_check.specs.PrintedClaims.{no_claim}
use Rattle.hol_check_terms.specs.Terms.{TermTable, name_at}
use Rattle.hol_check_rules.specs.State.{sequent_in}
use Rattle.hol_check_rules.specs.declared.state.Theorem.{Theorem}
use Rattle.hol_check.specs.declared.claim.Claim.TheInside.{Inside}

abbrev pub viewed_claim : Inside → LogClaim
viewed_claim claim = slice_index_or claim.log.value.claims claim.place no_claim

-- the claim stands in its log
abbrev pub IsPlaced : Inside → Type 0
IsPlaced claim = claim.place < length claim.log.value.claims

-- a theorem under a name, by its number
abbrev pub claim_of : TermTable → ℕ → Theorem → LogClaim
claim_of table name theorem = record { name = name_at table.names name; sequent = sequent_in table.terms theorem }
