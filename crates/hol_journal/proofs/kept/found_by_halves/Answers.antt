use Rattle.std.proofs.Common.{ltb, refl, ◌∙◌, ap, arith, rules}
use Rattle.std.proofs.lemmas.Option.{slice_get_read}
use Rattle.std.proofs.lemmas.List.Sorted.{IsPartitionPoint-from_clause, IsPartitionedBy-ltb}
use Rattle.hol_journal.specs.declared.kept.Numbered.{Numbered}
use Rattle.hol_journal.proofs.NumberedLemmas.{kept_rise, kept_at, kept_nowhere, same_one, none_past}
use Rattle.hol_journal.proofs.kept.found_by_halves.Goals as goal

pub returns-in_default : goal.returns-in_default
returns-in_default c = λ entries are.
    let parted = IsPartitionedBy-ltb (λ (y : Numbered). y.number) _ c.args.number (kept_rise 0 entries _ are) in
    let point = IsPartitionPoint-from_clause (λ (y : Numbered). ltb y.number c.args.number) _ _ c.partition_point-place.ensures.partitioned parted (λ a r q k. search rules) in
    kept_nowhere entries _ c.args.number _ are point (λ one there same. none_past _ _ one c.in_default.ensures.lookup there)

pub returns-then-one-number : goal.returns-then-one-number
returns-then-one-number c = λ entries are.
    let parted = IsPartitionedBy-ltb (λ (y : Numbered). y.number) _ c.args.number (kept_rise 0 entries _ are) in
    let point = IsPartitionPoint-from_clause (λ (y : Numbered). ltb y.number c.args.number) _ _ c.partition_point-place.ensures.partitioned parted (λ a r q k. search rules) in
    kept_nowhere entries _ c.args.number _ are point (λ one there same. c.if-one-number.true (ap (λ (x : Numbered). x.number) (same_one _ _ one c.in-Some.one c.in-Some.ensures.lookup there) ∙ same))

pub returns : goal.returns
returns c = λ entries are.
    kept_at 0 entries _ are c.partition_point-place.result c.in-Some.one.now c.args.number
    (slice_get_read _ _ _ _ refl c.in-Some.ensures.lookup.3.0 c.in-Some.ensures.lookup.1) (omega (arith, c.if-one-number.false))
