use Rattle.hol_prelude_derivations.proofs.DerivationLemmas.{recorded-made, recorded-grown}
use Rattle.hol_prelude_derivations.proofs.making.make.Goals as goal

pub returns-in_ok-body-in-Define-clause-made : goal.returns-in_ok-body-in-Define-clause-made
returns-in_ok-body-in-Define-clause-made c = recorded-made c.define.result c.args.recorder.now c.define.new.self _ c.define.ensures.recorded

pub returns-in_ok-body-in-Define-clause-grown : goal.returns-in_ok-body-in-Define-clause-grown
returns-in_ok-body-in-Define-clause-grown c = recorded-grown c.define.result c.args.recorder.now c.define.new.self _ c.define.ensures.recorded c.define.ensures.kept
