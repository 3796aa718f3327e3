use Rattle.std.proofs.Common.{refl}
use Rattle.hol_model.specs.Derived.DerivedRules.{named}
use Rattle.hol_refine.proofs.making.to_target.Goals as goal

pub returns : goal.returns
returns c t is = c.to_stated.ensures (named c.args.target.now) t refl is
