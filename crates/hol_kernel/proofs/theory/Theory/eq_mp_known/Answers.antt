use Rattle.std.proofs.Common.{◌≡◌, Some}
use Rattle.hol_model.specs.Kernel.Rules.{dest_equation}
use Rattle.hol_model.specs.Kernel.Theorem.{with_hypotheses}
use Rattle.hol_kernel.proofs.RuleLemmas.{theorem-alike, eq_mp-left, eq_mp-theorem, eq_mp-concluded, answers-made}
use Rattle.hol_kernel.proofs.theory.Theory.eq_mp_known.Goals as goal

pub new-requires : goal.new-requires
new-requires c =
    let first : dest_equation c.args.first.now.conclusion ≡ Some (c.in-Some.field-0-0.now, c.in-Some.right.now) = cc (c.in-Some.ensures, c.concl.ensures.value) in
    let left = eq_mp-left c.args.first.now c.args.second.now c.concl.ensures.theorem _ _ first c.requires.fits in
    let items : c.in_ok-hypotheses.hypotheses.items ≡ with_hypotheses c.args.first.now.hypotheses c.args.second.now.hypotheses =
    cc (c.in_ok-hypotheses.ensures.ok, c.hyps.ensures.value, c.hyps-2.ensures.value) in
    theorem-alike _ _ _ _ _ _ c.entries.ensures.value items c.in_ok-copy.ensures.ok
    (eq_mp-theorem c.args.self.now c.entries.ensures.legal c.args.first.now c.args.second.now c.requires.first c.requires.second c.concl.ensures.theorem c.hyps-2.ensures.theorem
    _ _ first left)

pub returns-clause-outcome : goal.returns-clause-outcome
returns-clause-outcome c =
    let first : dest_equation c.args.first.now.conclusion ≡ Some (c.in-Some.field-0-0.now, c.in-Some.right.now) = cc (c.in-Some.ensures, c.concl.ensures.value) in
    let left = eq_mp-left c.args.first.now c.args.second.now c.concl.ensures.theorem _ _ first c.requires.fits in
    let items : c.in_ok-hypotheses.hypotheses.items ≡ with_hypotheses c.args.first.now.hypotheses c.args.second.now.hypotheses =
    cc (c.in_ok-hypotheses.ensures.ok, c.hyps.ensures.value, c.hyps-2.ensures.value) in
    answers-made c.new.result _ _ _ _ _ _ _ (eq_mp-concluded c.args.self.now c.args.first.now c.args.second.now _ _ first left)
    c.entries.ensures.value items c.in_ok-copy.ensures.ok c.new.ensures.ok c.new.ensures.err
