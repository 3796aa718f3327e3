use Rattle.std.proofs.lemmas.Option.{slice_get-get_or}
use Rattle.hol_check_written.proofs.MakingLemmas.{top-shallow, unwritten}
use Rattle.hol_check_written.proofs.making.number_of.Goals as goal

pub number_under-requires-clause-shallow : goal.number_under-requires-clause-shallow
number_under-requires-clause-shallow c = top-shallow c.args.terms.now c.args.written.now c.args.line _ c.requires.written (slice_get-get_or c.args.written.now c.args.line unwritten c.requires.line)
