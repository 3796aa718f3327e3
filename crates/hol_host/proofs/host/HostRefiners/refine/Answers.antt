use Rattle.std.proofs.Common.{refl}
use Rattle.hol_host.specs.Host.{step_answered}
use Rattle.hol_host.proofs.Told.{told}
use Rattle.hol_host.proofs.host.HostRefiners.refine.Goals as goal

pub returns-clause-answer : goal.returns-clause-answer
returns-clause-answer g c = told (step_answered c.answer.result) (λ answered is. record {
  entry = c.in_ok-refiner.refiner.now;
  listed = c.in_ok-refiner.ensures.listed;
  named = c.in_ok-refiner.ensures.named;
  answered = record { alloc = c.args.alloc; given = c.args.goal; gives = c.answer.result; asks = refl; may = c.answer.ensures; is = is };
})
