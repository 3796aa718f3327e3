use Rattle.std.proofs.Common.{◌≡◌, drop}
use Rattle.hol_model.specs.Terms.HolType.{replaces_type_variables}
use Rattle.hol_check_rules.specs.StepPairs.{type_pairs_in}
use Rattle.hol_check_rules.proofs.steps.instances.replace_type_variables.Given as goal

abbrev pub invariant-loop-pair : goal.invariant-loop-pair
invariant-loop-pair l = replaces_type_variables (type_pairs_in l.terms.types l.pairs) ≡ replaces_type_variables (type_pairs_in l.terms.types (drop l.pair-index l.pairs))
