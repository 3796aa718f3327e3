use Rattle.std.proofs.Common.{[], ◌∷◌, refl}
use Rattle.hol_model.specs.Derived.DerivedRules.{named}
use Rattle.hol_model.specs.Refining.Refiners.{from_assumptions}
use Rattle.hol_refine.proofs.making.to_assuming.Goals as goal

pub returns : goal.returns
returns c stated t is same =
    c.to_one.ensures (from_assumptions c.args.goal.now.asms.items (stated ∷ []) (named c.args.target.now)) t
    (c.in_ok-subgoal.ensures.ok stated (named c.args.target.now) is refl) same
