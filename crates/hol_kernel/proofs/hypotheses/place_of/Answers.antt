use Rattle.std.proofs.Common.{length, sym, ap, ◌∙◌}
use Rattle.std.specs.Result.{result_err}
use Rattle.hol_kernel.proofs.PlaceLemmas.{place_of-place, place_of-within}
use Rattle.hol_kernel.proofs.hypotheses.place_of.Goals as goal

pub returns-clause-place : goal.returns-clause-place
returns-clause-place c = c.err.ensures.value ∙ ap result_err c.place_in.ensures.place ∙ sym (place_of-place c.args.hypotheses.now c.args.new.now)

pub returns-clause-within : goal.returns-clause-within
returns-clause-within c = rw c.err.ensures.value (place_of-within c.place_in.result (length c.args.hypotheses.now) c.place_in.ensures.within)
