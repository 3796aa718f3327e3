use Rattle.std.proofs.Common.{◌≡◌, ◌+◌, ◌<◌, arith, sym, ap}
use Rattle.hol_model.specs.Terms.HolType.{type_nodes}
use Rattle.hol_model_evaluator.specs.Trees.{hol_type}
use Rattle.hol_model_evaluator.specs.Interpretations.{instance_nodes}
use Rattle.hol_model_evaluator.proofs.PartNodes.{part-nodes}
use Rattle.hol_model_evaluator.proofs.carriers.+carrier.Goals as goal

pub carrier-requires : goal.carrier-requires
carrier-requires t c =
    let small =
    part-nodes (hol_type c.in-Instance.generic.now) (hol_type c.in-Instance.instance.now) c.in-Variable.name.now (hol_type c.in-Some.part.now)
    (sym c.in-Some.ensures) in
    let now : type_nodes (hol_type c.args.ty.now) + instance_nodes c.args.model.now ≡ t = c.decreases in
    let ty : type_nodes (hol_type c.args.ty.now) ≡ 1 = ap (λ ty. type_nodes (hol_type ty)) c.in-Variable.is in
    let model : instance_nodes c.args.model.now ≡ type_nodes (hol_type c.in-Instance.instance.now) + instance_nodes c.in-Instance.outer.now =
    ap instance_nodes c.in-Instance.is in
    let falls : type_nodes (hol_type c.in-Some.part.now) + instance_nodes c.in-Instance.outer.now < t = omega (arith, small, now, ty, model) in
    (falls, tt)
