use Rattle.std.proofs.Common.{◌+◌}
use Rattle.hol_model.specs.Terms.HolType.{type_nodes}
use Rattle.hol_model_evaluator.specs.Trees.{hol_type}
use Rattle.hol_model_evaluator.specs.Interpretations.{instance_nodes}
use Rattle.hol_model_evaluator.proofs.carriers.+carrier.Given as goal

abbrev pub decreases-carrier : goal.decreases-carrier
decreases-carrier l = type_nodes (hol_type l.ty.now) + instance_nodes l.model.now
