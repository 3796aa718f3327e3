use Rattle.std.proofs.Common.{[], ◌∷◌}
use Rattle.hol_model.specs.Terms.Nameless.{image}
use Rattle.hol_model.specs.Derived.DerivedRules.{images}
use Rattle.hol_equal.proofs.CutLemmas.{assumed, shows-itself, add_assum-stated}
use Rattle.hol_equal.proofs.equality.add_assum_known.Goals as goal
use Rattle.hol_equal.proofs.InferredEquality.{infers_add_assum}

pub returns-clause-outcome : goal.returns-clause-outcome
returns-clause-outcome c =
    let p = c.args.p.now in
    let premise = c.args.premise.now.theorem in
    let is = assumed c.args.recorder.now.theory p c.in_ok-assumed.assumed.theorem c.in_ok-assumed.ensures.outcome in
    add_assum-stated c.cut.result c.args.recorder.now.theory p c.in_ok-assumed.assumed.theorem premise is
    (c.cut.ensures.derives (image p ∷ []) (images premise) (image p) (image premise.conclusion) is.shows (shows-itself premise)) c.cut.ensures.names

pub returns-clause-inferred : goal.returns-clause-inferred
returns-clause-inferred c = infers_add_assum c.ty-type.ensures (returns-clause-outcome c)
