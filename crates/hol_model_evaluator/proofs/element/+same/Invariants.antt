use Rattle.hol_model.specs.Models.Values.{values_of}
use Rattle.hol_model_evaluator.specs.ValueCode.{value_nodes, values_nodes}
use Rattle.hol_model_evaluator.proofs.element.+same.Given as goal

abbrev pub decreases-same : goal.decreases-same
decreases-same l = value_nodes l.a.now

abbrev pub decreases-same_elements : goal.decreases-same_elements
decreases-same_elements l = values_nodes (values_of l.xs.now)
