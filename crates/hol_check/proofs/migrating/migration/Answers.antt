use Rattle.hol_check.specs.Reading.{IsRead}
use Rattle.hol_check.proofs.LogAnswerLemmas.{passed_on}
use Rattle.hol_check.proofs.HeaderLemmas.{is_headed}
use Rattle.hol_check.proofs.MigrationLemmas.{text_accepted, is_migration, text_told}
use Rattle.hol_check.proofs.migrating.migration.Goals as goal

pub set_second_version-requires : goal.set_second_version-requires
set_second_version-requires g c =
    let checked = rw c.as_slice.ensures.value at c.in_ok-claims.ensures.claims in
    is_headed c.reading_is_exact.ensures c.in_ok-text.text.items checked.state (text_accepted c.in_ok-text.text.items c.in_ok-claims.claims.items checked)

pub returns-clause-migration : goal.returns-clause-migration
returns-clause-migration g c =
    is_migration (g.R.Source.remaining c.args.reader.now) c.in_ok-text.text.items c.set_second_version.new.text.items c.in_ok-claims.claims.items c.migration_keeps_claims.ensures
    c.in_ok-text.ensures.all c.in_ok-text.ensures.within_limit (rw c.as_slice.ensures.value at c.in_ok-claims.ensures.claims) c.set_second_version.ensures

pub returns-in_err-claims-clause-refused : goal.returns-in_err-claims-clause-refused
returns-in_err-claims-clause-refused g c =
    let read : IsRead (g.R.Source.remaining c.args.reader.now) c.in_ok-text.text.items = record { whole = c.in_ok-text.ensures.all; within_limit = c.in_ok-text.ensures.within_limit } in
    rw (passed_on c.from_residual-in_err-claims.result c.in_err-claims.field-0.0 c.from_residual-in_err-claims.ensures.1)
    (text_told c.in_err-claims.field-0.0 _ _ c.in_ok-text.text.items read (rw c.as_slice.ensures.value at c.in_err-claims.ensures.refused) c.in_err-claims.ensures.refusals)
