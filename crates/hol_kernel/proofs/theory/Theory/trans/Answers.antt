use Rattle.std.proofs.Common.{◌≡◌, Some, true}
use Rattle.hol_model.specs.Terms.Nameless.{image, same_term}
use Rattle.hol_model.proofs.Tests.{same_term-Decides}
use Rattle.hol_model.specs.Kernel.Rules.{dest_equation}
use Rattle.hol_kernel.proofs.RuleLemmas.{trans-fits}
use Rattle.hol_kernel.proofs.theory.Theory.trans.Goals as goal

pub trans_known-requires-clause-fits : goal.trans_known-requires-clause-fits
trans_known-requires-clause-fits c =
    let first : dest_equation c.args.first.now.conclusion ≡ Some (c.in-Some.field-0-0.now, c.in-Some.middle.now) = cc (c.in-Some.ensures, c.concl.ensures.value) in
    let second : dest_equation c.args.second.now.conclusion ≡ Some (c.in-Some-dest_eq.other.now, c.in-Some-dest_eq.field-0-1.now) = cc (c.in-Some-dest_eq.ensures, c.concl-2.ensures.value) in
    let test : same_term (image c.in-Some.middle.now) (image c.in-Some-dest_eq.other.now) ≡ true = cc (c.aconv.ensures.value, c.if-not-aconv.false) in
    trans-fits c.args.first.now c.args.second.now c.concl.ensures.theorem c.concl-2.ensures.theorem _ _ _ _ first second ((same_term-Decides _ _).0 test)
