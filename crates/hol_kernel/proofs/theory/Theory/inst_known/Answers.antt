use Rattle.hol_model.specs.Terms.Substitution.{replacement}
use Rattle.hol_model.specs.Logic.Derivable.Derivable.{inst_rule}
use Rattle.hol_kernel.proofs.RuleLemmas.{standing}
use Rattle.hol_kernel.proofs.InstanceLemmas.{replacement-MayReplace, passes_inst}
use Rattle.hol_kernel.proofs.theory.Theory.inst_known.Goals as goal

pub changed-requires-clause-replacements : goal.changed-requires-clause-replacements
changed-requires-clause-replacements c =
    let passes = passes_inst c.args.self.now c.args.theta.now c.requires.known in
    (passes.variables, passes.keeps)

pub changed-requires-clause-derivable : goal.changed-requires-clause-derivable
changed-requires-clause-derivable c = λ is.
    let theta = c.args.theta.now in
    let passes = passes_inst c.args.self.now theta c.requires.known in
    rw c.entries.ensures.value
    (inst_rule (replacement theta) (replacement-MayReplace c.args.self.now theta passes.keeps passes.types passes.instances)
    (standing c.args.self.now c.entries.ensures.legal c.args.theorem.now c.requires.theorem is))
