use Rattle.std.proofs.Common.{◌≡◌, None}
use Rattle.hol_model.specs.Kernel.Instantiation.{replacements_refusal}
use Rattle.hol_kernel.proofs.theory.Theory.inst.Goals as goal

pub inst_known-requires-clause-known : goal.inst_known-requires-clause-known
inst_known-requires-clause-known c =
    let none : replacements_refusal c.args.self.now c.args.theta.now ≡ None = cc (c.replacements_refusal.ensures) in
    none
