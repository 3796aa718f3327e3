use Rattle.std.proofs.Common.{◌≡◌, None}
use Rattle.hol_model.specs.Terms.HolType.{type_instance_of}
use Rattle.hol_model.specs.Kernel.Instantiation.{type_replacements_refusal}
use Rattle.hol_model.specs.Logic.Derivable.Derivable.{inst_type_rule}
use Rattle.hol_kernel.proofs.RuleLemmas.{standing}
use Rattle.hol_kernel.proofs.InstanceLemmas.{known_types, passes_inst_type}
use Rattle.hol_kernel.proofs.theory.Theory.inst_type.Goals as goal

pub changed-requires-clause-derivable : goal.changed-requires-clause-derivable
changed-requires-clause-derivable c = λ is.
    let theta = c.args.theta.now in
    let none : type_replacements_refusal c.args.self.now theta ≡ None = cc (c.type_replacements_refusal.ensures) in
    rw c.entries.ensures.value
    (inst_type_rule (type_instance_of theta) (known_types c.args.self.now theta (passes_inst_type c.args.self.now theta none).known)
    (standing c.args.self.now c.entries.ensures.legal c.args.theorem.now c.requires is))
