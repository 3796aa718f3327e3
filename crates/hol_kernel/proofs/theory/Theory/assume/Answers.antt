use Rattle.std.proofs.Common.{◌≡◌, None, true}
use Rattle.hol_model.specs.Kernel.Rules.{first_unknown, is_formula}
use Rattle.hol_kernel.proofs.RuleLemmas.{passed_formula}
use Rattle.hol_kernel.proofs.theory.Theory.assume.Goals as goal

pub assume_known-requires : goal.assume_known-requires
assume_known-requires c =
    let known : first_unknown c.args.self.now c.args.term.now ≡ None = cc (c.first_unknown.ensures) in
    let formula : is_formula c.args.term.now ≡ true = cc (c.ty.ensures, c.is_bool.ensures, c.if-not-is_bool.false) in
    passed_formula c.args.self.now c.args.term.now formula known
