use Rattle.hol_check.proofs.MigrationLemmas.{migration_keeps_claims}
use Rattle.hol_check.proofs.laws.migration_keeps_claims.Goals as goal

pub returns : goal.returns
returns c = migration_keeps_claims
