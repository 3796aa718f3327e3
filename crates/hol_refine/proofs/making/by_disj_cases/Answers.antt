use Rattle.std.proofs.Common.{refl}
use Rattle.hol_model.specs.Goals.Justifications.{sub, named}
use Rattle.hol_refine.proofs.making.by_disj_cases.Goals as goal

pub returns : goal.returns
returns c =
    c.by_three.ensures (named c.args.name.now) (sub 0) (sub 1) c.in_ok-theorem.ensures.tree c.in_ok-first.ensures.tree c.in_ok-second.ensures.tree refl refl refl
