use Rattle.std.proofs.Common.{refl}
use Rattle.hol_host.specs.Host.{equation_answered}
use Rattle.hol_host.proofs.Told.{told}
use Rattle.hol_host.proofs.conversions.HostConvsConverters.convert.Goals as goal

pub returns-clause-answer : goal.returns-clause-answer
returns-clause-answer g c = told (equation_answered c.answer.result) (λ answered is. record {
  entry = c.in_ok-converter.converter.now;
  listed = c.in_ok-converter.ensures.listed;
  named = c.in_ok-converter.ensures.named;
  answered = record { alloc = c.args.alloc; given = c.args.term; gives = c.answer.result; asks = refl; may = c.answer.ensures; is = is };
})
