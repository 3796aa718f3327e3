use Rattle.std.proofs.Common.{refl, arith}
use Rattle.std.proofs.lemmas.Option.{slice_get_read}
use Rattle.hol_journal.proofs.NumberedLemmas.{kept_at}
use Rattle.hol_journal.proofs.kept.found_at_once.Goals as goal

pub returns : goal.returns
returns c = λ entries are.
    kept_at 0 entries _ are c.args.number c.in-Some.one.now c.args.number
    (slice_get_read _ _ _ _ refl c.in-Some.ensures.lookup.3.0 c.in-Some.ensures.lookup.1) (omega (arith, c.if-one-number.false))
