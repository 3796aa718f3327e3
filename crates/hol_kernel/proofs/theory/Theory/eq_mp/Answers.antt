use Rattle.std.proofs.Common.{◌≡◌, Some, true}
use Rattle.hol_model.specs.Terms.Nameless.{image, same_term}
use Rattle.hol_model.proofs.Tests.{same_term-Decides}
use Rattle.hol_model.specs.Kernel.Rules.{dest_equation}
use Rattle.hol_kernel.proofs.RuleLemmas.{eq_mp-fits}
use Rattle.hol_kernel.proofs.theory.Theory.eq_mp.Goals as goal

pub eq_mp_known-requires-clause-fits : goal.eq_mp_known-requires-clause-fits
eq_mp_known-requires-clause-fits c =
    let first : dest_equation c.args.first.now.conclusion ≡ Some (c.in-Some.left.now, c.in-Some.field-0-1.now) = cc (c.in-Some.ensures, c.concl.ensures.value) in
    let test : same_term (image c.in-Some.left.now) (image c.args.second.now.conclusion) ≡ true = cc (c.aconv.ensures.value, c.if-not-aconv.false, c.concl-2.ensures.value) in
    eq_mp-fits c.args.first.now c.args.second.now c.concl.ensures.theorem c.concl-2.ensures.theorem _ _ first ((same_term-Decides _ _).0 test)
