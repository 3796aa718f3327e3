use Rattle.std.proofs.Common.{◌≡◌, Some, refl, sym, ◌∙◌, ap, inl, inr}
use Rattle.std.proofs.lemmas.Result.{err_from_is_err_and}
use Rattle.hol_model.specs.Terms.NamedTerm.{combination, type_of}
use Rattle.hol_model.specs.Kernel.Rules.{dest_equation}
use Rattle.hol_model.specs.Kernel.Theorem.{with_hypotheses}
use Rattle.hol_kernel.proofs.RuleLemmas.{theorem-alike, mk_comb-types, mk_comb-theorem, mk_comb-concluded, answers-concluded}
use Rattle.hol_kernel.proofs.LimitLemmas.{concluded-right, limited-is, applied, mk_comb-refused}
use Rattle.hol_kernel.proofs.theory.Theory.mk_comb.Goals as goal

pub combination-requires : goal.combination-requires
combination-requires c =
    let first : dest_equation c.args.first.now.conclusion ≡ Some (c.in-Some.left_function.now, c.in-Some.right_function.now) = cc (c.in-Some.ensures, c.concl.ensures.value) in
    let second : dest_equation c.args.second.now.conclusion ≡ Some (c.in-Some-dest_eq.left_argument.now, c.in-Some-dest_eq.right_argument.now) =
    cc (c.in-Some-dest_eq.ensures, c.concl-2.ensures.value) in
    let left = applied c.in-Some.left_function.now c.in-Some-dest_eq.left_argument.now c.in_ok-left.left c.in_ok-left.ensures in
    rw (mk_comb-types c.args.self.now c.entries-entries.ensures.legal c.args.first.now c.args.second.now c.requires.first c.requires.second c.concl.ensures.theorem c.concl-2.ensures.theorem
    _ _ _ _ left.ty first second left.typed) refl

pub returns-in_err-right-clause-outcome : goal.returns-in_err-right-clause-outcome
returns-in_err-right-clause-outcome c =
    let first : dest_equation c.args.first.now.conclusion ≡ Some (c.in-Some.left_function.now, c.in-Some.right_function.now) = cc (c.in-Some.ensures, c.concl.ensures.value) in
    let second : dest_equation c.args.second.now.conclusion ≡ Some (c.in-Some-dest_eq.left_argument.now, c.in-Some-dest_eq.right_argument.now) =
    cc (c.in-Some-dest_eq.ensures, c.concl-2.ensures.value) in
    let left = applied c.in-Some.left_function.now c.in-Some-dest_eq.left_argument.now c.in_ok-left.left c.in_ok-left.ensures in
    let p = err_from_is_err_and c.from_residual-in_err-right.result c.from_residual-in_err-right.ensures.1 in
    rw (p.1, p.2) (elim c.in_err-right.ensures [
      | inl memory ↦ inl memory
      | inr refused ↦ inr (mk_comb-concluded c.args.self.now c.args.first.now c.args.second.now _ _ _ _ left.ty first second left.typed
          ∙ concluded-right c.args.self.now (with_hypotheses c.args.first.now.hypotheses c.args.second.now.hypotheses) (combination c.in-Some.left_function.now c.in-Some-dest_eq.left_argument.now)
          (combination c.in-Some.right_function.now c.in-Some-dest_eq.right_argument.now) _ refused)
    ])

pub equation_theorem-requires-clause-typed : goal.equation_theorem-requires-clause-typed
equation_theorem-requires-clause-typed c =
    let first : dest_equation c.args.first.now.conclusion ≡ Some (c.in-Some.left_function.now, c.in-Some.right_function.now) = cc (c.in-Some.ensures, c.concl.ensures.value) in
    let second : dest_equation c.args.second.now.conclusion ≡ Some (c.in-Some-dest_eq.left_argument.now, c.in-Some-dest_eq.right_argument.now) =
    cc (c.in-Some-dest_eq.ensures, c.concl-2.ensures.value) in
    let left = applied c.in-Some.left_function.now c.in-Some-dest_eq.left_argument.now c.in_ok-left.left c.in_ok-left.ensures in
    ap type_of left.is ∙ left.typed
    ∙ sym (ap type_of (limited-is (combination c.in-Some.right_function.now c.in-Some-dest_eq.right_argument.now) c.in_ok-right.right c.in_ok-right.ensures)
    ∙ mk_comb-types c.args.self.now c.entries-entries.ensures.legal c.args.first.now c.args.second.now c.requires.first c.requires.second c.concl.ensures.theorem c.concl-2.ensures.theorem
    _ _ _ _ left.ty first second left.typed)

pub equation_theorem-requires-clause-theorem : goal.equation_theorem-requires-clause-theorem
equation_theorem-requires-clause-theorem c = λ ty typed.
    let first : dest_equation c.args.first.now.conclusion ≡ Some (c.in-Some.left_function.now, c.in-Some.right_function.now) = cc (c.in-Some.ensures, c.concl.ensures.value) in
    let second : dest_equation c.args.second.now.conclusion ≡ Some (c.in-Some-dest_eq.left_argument.now, c.in-Some-dest_eq.right_argument.now) =
    cc (c.in-Some-dest_eq.ensures, c.concl-2.ensures.value) in
    let items : c.in_ok-hypotheses.hypotheses.items ≡ with_hypotheses c.args.first.now.hypotheses c.args.second.now.hypotheses =
    cc (c.in_ok-hypotheses.ensures.ok, c.hyps.ensures.value, c.hyps-2.ensures.value) in
    let left = applied c.in-Some.left_function.now c.in-Some-dest_eq.left_argument.now c.in_ok-left.left c.in_ok-left.ensures in
    rw (
      left.is,
      limited-is (combination c.in-Some.right_function.now c.in-Some-dest_eq.right_argument.now) c.in_ok-right.right
          c.in_ok-right.ensures,
    ) (theorem-alike _ _ _ _ _ _ c.entries-entries.ensures.value items refl
    (mk_comb-theorem c.args.self.now c.entries-entries.ensures.legal c.args.first.now c.args.second.now c.requires.first c.requires.second c.concl.ensures.theorem c.concl-2.ensures.theorem
    _ _ _ _ ty first second (sym (ap type_of left.is) ∙ typed)))

pub returns-clause-outcome : goal.returns-clause-outcome
returns-clause-outcome c =
    let first : dest_equation c.args.first.now.conclusion ≡ Some (c.in-Some.left_function.now, c.in-Some.right_function.now) = cc (c.in-Some.ensures, c.concl.ensures.value) in
    let second : dest_equation c.args.second.now.conclusion ≡ Some (c.in-Some-dest_eq.left_argument.now, c.in-Some-dest_eq.right_argument.now) =
    cc (c.in-Some-dest_eq.ensures, c.concl-2.ensures.value) in
    let left = applied c.in-Some.left_function.now c.in-Some-dest_eq.left_argument.now c.in_ok-left.left c.in_ok-left.ensures in
    let items : c.in_ok-hypotheses.hypotheses.items ≡ with_hypotheses c.args.first.now.hypotheses c.args.second.now.hypotheses =
    cc (c.in_ok-hypotheses.ensures.ok, c.hyps.ensures.value, c.hyps-2.ensures.value) in
    let right : c.in_ok-right.right ≡ combination c.in-Some.right_function.now c.in-Some-dest_eq.right_argument.now =
    limited-is (combination c.in-Some.right_function.now c.in-Some-dest_eq.right_argument.now) c.in_ok-right.right c.in_ok-right.ensures in
    answers-concluded _ _ _ _ _ _ _ _ _ _ (mk_comb-concluded c.args.self.now c.args.first.now c.args.second.now _ _ _ _ left.ty first second left.typed)
    c.entries-entries.ensures.value items left.is right c.equation_theorem.ensures.outcome

pub returns-in_err-left-clause-outcome : goal.returns-in_err-left-clause-outcome
returns-in_err-left-clause-outcome c =
    let first : dest_equation c.args.first.now.conclusion ≡ Some (c.in-Some.left_function.now, c.in-Some.right_function.now) = cc (c.in-Some.ensures, c.concl.ensures.value) in
    let second : dest_equation c.args.second.now.conclusion ≡ Some (c.in-Some-dest_eq.left_argument.now, c.in-Some-dest_eq.right_argument.now) =
    cc (c.in-Some-dest_eq.ensures, c.concl-2.ensures.value) in
    let p = err_from_is_err_and c.from_residual.result c.from_residual.ensures.1 in
    rw (p.1, p.2) (elim c.in_err-left.ensures [
      | inl memory ↦ inl memory
      | inr refused ↦ inr (mk_comb-refused c.args.self.now c.args.first.now c.args.second.now _ _ _ _ _ first second refused)
    ])
