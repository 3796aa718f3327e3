use Rattle.std.proofs.Common.{length, refl}
use Rattle.std.proofs.lemmas.Option.{slice_get_read}
use Rattle.hol_prelude.proofs.stored.theorem_of.Goals as goal
use Rattle.hol_prelude.proofs.StoredLemmas.{stored-within, stored-is}

pub returns-clause-theorem : goal.returns-clause-theorem
returns-clause-theorem c =
    let all = c.args.logic.now.theorems.items in
    let within = stored-within all c.args.number c.requires.logic.theorems_are c.requires.number in
    stored-is all c.args.number c.index.result.now c.requires.logic.theorems_are (slice_get_read all (length all) c.args.number c.index.result.now refl within c.index.ensures)
