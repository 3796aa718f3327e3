use Rattle.std.proofs.Common.{◌≡◌, Some}
use Rattle.hol_model.specs.Kernel.Rules.{dest_equation}
use Rattle.hol_model.specs.Kernel.Theorem.{with_hypotheses}
use Rattle.hol_model.specs.Terms.NamedTerm.{combination}
use Rattle.hol_kernel.proofs.RuleLemmas.{theorem-alike, trans-middle, trans-theorem, trans-typed, trans-concluded, answers-alike, same_left}
use Rattle.hol_kernel.proofs.theory.Theory.trans_known.Goals as goal

pub combination_theorem-requires-clause-typed : goal.combination_theorem-requires-clause-typed
combination_theorem-requires-clause-typed c =
    let first : dest_equation c.args.first.now.conclusion ≡ Some (c.in-Some.parts.left.now, c.in-Some.parts.right.now) = cc (c.in-Some.ensures.sides, c.concl.ensures.value) in
    let second : dest_equation c.args.second.now.conclusion ≡ Some (c.in-Some-dest_eq.field-0-0.now, c.in-Some-dest_eq.right.now) = cc (c.in-Some-dest_eq.ensures, c.concl-2.ensures.value) in
    let meet = trans-middle c.args.first.now c.args.second.now c.concl.ensures.theorem c.concl-2.ensures.theorem _ _ _ _ first second c.requires.fits in
    let whole : c.args.first.now.conclusion ≡ combination c.in-Some.parts.applied.now c.in-Some.parts.right.now = cc (c.in-Some.ensures.whole, c.in-Some.ensures.applied, c.concl.ensures.value) in
    trans-typed c.args.self.now c.entries.ensures.legal c.args.first.now c.args.second.now c.requires.first c.requires.second c.concl.ensures.theorem c.concl-2.ensures.theorem
    _ _ _ _ _ first second meet (same_left c.args.first.now c.concl.ensures.theorem _ _ _ _ _ first whole)

pub combination_theorem-requires-clause-theorem : goal.combination_theorem-requires-clause-theorem
combination_theorem-requires-clause-theorem c =
    let first : dest_equation c.args.first.now.conclusion ≡ Some (c.in-Some.parts.left.now, c.in-Some.parts.right.now) = cc (c.in-Some.ensures.sides, c.concl.ensures.value) in
    let second : dest_equation c.args.second.now.conclusion ≡ Some (c.in-Some-dest_eq.field-0-0.now, c.in-Some-dest_eq.right.now) = cc (c.in-Some-dest_eq.ensures, c.concl-2.ensures.value) in
    let meet = trans-middle c.args.first.now c.args.second.now c.concl.ensures.theorem c.concl-2.ensures.theorem _ _ _ _ first second c.requires.fits in
    let whole : c.args.first.now.conclusion ≡ combination c.in-Some.parts.applied.now c.in-Some.parts.right.now = cc (c.in-Some.ensures.whole, c.in-Some.ensures.applied, c.concl.ensures.value) in
    let items : c.in_ok-hypotheses.hypotheses.items ≡ with_hypotheses c.args.first.now.hypotheses c.args.second.now.hypotheses =
    cc (c.in_ok-hypotheses.ensures.ok, c.hyps.ensures.value, c.hyps-2.ensures.value) in
    theorem-alike _ _ _ _ _ _ c.entries.ensures.value items (same_left c.args.first.now c.concl.ensures.theorem _ _ _ _ _ first whole)
    (trans-theorem c.args.self.now c.entries.ensures.legal c.args.first.now c.args.second.now c.requires.first c.requires.second c.concl.ensures.theorem c.concl-2.ensures.theorem
    _ _ _ _ first second meet)

pub returns-clause-outcome : goal.returns-clause-outcome
returns-clause-outcome c =
    let first : dest_equation c.args.first.now.conclusion ≡ Some (c.in-Some.parts.left.now, c.in-Some.parts.right.now) = cc (c.in-Some.ensures.sides, c.concl.ensures.value) in
    let second : dest_equation c.args.second.now.conclusion ≡ Some (c.in-Some-dest_eq.field-0-0.now, c.in-Some-dest_eq.right.now) = cc (c.in-Some-dest_eq.ensures, c.concl-2.ensures.value) in
    let meet = trans-middle c.args.first.now c.args.second.now c.concl.ensures.theorem c.concl-2.ensures.theorem _ _ _ _ first second c.requires.fits in
    let whole : c.args.first.now.conclusion ≡ combination c.in-Some.parts.applied.now c.in-Some.parts.right.now = cc (c.in-Some.ensures.whole, c.in-Some.ensures.applied, c.concl.ensures.value) in
    let items : c.in_ok-hypotheses.hypotheses.items ≡ with_hypotheses c.args.first.now.hypotheses c.args.second.now.hypotheses =
    cc (c.in_ok-hypotheses.ensures.ok, c.hyps.ensures.value, c.hyps-2.ensures.value) in
    answers-alike c.combination_theorem.result _ _ _ _ _ _ _
    (trans-concluded c.args.self.now c.args.first.now c.args.second.now _ _ _ _ first second meet)
    c.entries.ensures.value items (same_left c.args.first.now c.concl.ensures.theorem _ _ _ _ _ first whole) c.combination_theorem.ensures.outcome
