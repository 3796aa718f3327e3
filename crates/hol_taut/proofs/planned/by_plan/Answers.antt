use Rattle.std.proofs.lemmas.Result.{err_from_is_err_and}
use Rattle.hol_taut_laws.proofs.LawLemmas.{laws-stay}
use Rattle.hol_taut.proofs.PlanLemmas.{continued-behind, refused-behind}
use Rattle.hol_taut.proofs.planned.by_plan.Goals as goal

pub taken-requires-clause-laws : goal.taken-requires-clause-laws
taken-requires-clause-laws c = laws-stay c.args.recorder.now c.all_taken.new.recorder c.args.laws.now c.all_taken.ensures.grown c.requires.laws

pub returns-in_err-made : goal.returns-in_err-made
returns-in_err-made c =
    let p = err_from_is_err_and c.from_residual.result c.from_residual.ensures.1 in
    record { continues = rw p.1 (refused-behind c.args.recorder.now c.all_taken.new.recorder _ c.all_taken.ensures.grown c.all_taken.ensures.theory) }

pub returns : goal.returns
returns c = record {
  continues = continued-behind c.args.recorder.now c.all_taken.new.recorder c.taken.new.recorder c.taken.result c.all_taken.ensures.grown c.all_taken.ensures.theory c.taken.ensures.continues;
}
