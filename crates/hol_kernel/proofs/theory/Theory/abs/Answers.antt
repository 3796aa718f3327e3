use Rattle.std.proofs.Common.{◌≡◌, Some, true, false, refl, sym, ◌∙◌, ap, inl, inr}
use Rattle.std.proofs.lemmas.Result.{err_from_is_err_and}
use Rattle.hol_model.specs.Terms.NamedTerm.{abstraction, dest_variable, type_of}
use Rattle.hol_model.specs.Logic.KnownTerm.{knows_type}
use Rattle.hol_model.specs.Kernel.Rules.{dest_equation, is_free_in_hypotheses}
use Rattle.hol_kernel.proofs.RuleLemmas.{theorem-alike, abs-types, abs-theorem, abs-concluded, answers-concluded}
use Rattle.hol_kernel.proofs.LimitLemmas.{abstraction-limited, concluded-left, concluded-right, limited-is}
use Rattle.hol_kernel.proofs.theory.Theory.abs.Goals as goal

pub returns-in_err-left-clause-outcome : goal.returns-in_err-left-clause-outcome
returns-in_err-left-clause-outcome c =
    let binder : dest_variable c.args.binder.now ≡ Some (c.in-Some.name.now, c.in-Some.ty.now) = cc (c.in-Some.ensures.parts) in
    let dest : dest_equation c.args.theorem.now.conclusion ≡ Some (c.in-Some-dest_eq.left_body.now, c.in-Some-dest_eq.right_body.now) = cc (c.in-Some-dest_eq.ensures, c.concl.ensures.value) in
    let known : knows_type c.args.self.now c.in-Some.ty.now ≡ true = cc (c.knows_type.ensures, c.if-not-knows_type.false) in
    let fresh : is_free_in_hypotheses c.in-Some.name.now c.in-Some.ty.now c.args.theorem.now.hypotheses ≡ false =
    cc (c.is_free_in_hypotheses.ensures, c.if-is_free_in_hypotheses.false, c.hyps.ensures.value) in
    let p = err_from_is_err_and c.from_residual.result c.from_residual.ensures.1 in
    rw (p.1, p.2) (elim c.in_err-left.ensures [
      | inl memory ↦ inl memory
      | inr refused ↦ inr (abs-concluded c.args.self.now c.args.binder.now c.args.theorem.now _ _ _ _ binder dest known fresh
          ∙ concluded-left c.args.self.now c.args.theorem.now.hypotheses
          (abstraction c.in-Some.name.now c.in-Some.ty.now c.in-Some-dest_eq.left_body.now)
          (abstraction c.in-Some.name.now c.in-Some.ty.now c.in-Some-dest_eq.right_body.now) _
          (sym (abstraction-limited c.args.binder.now c.in-Some-dest_eq.left_body.now _ _ binder) ∙ refused))
    ])

pub returns-in_err-right-clause-outcome : goal.returns-in_err-right-clause-outcome
returns-in_err-right-clause-outcome c =
    let binder : dest_variable c.args.binder.now ≡ Some (c.in-Some.name.now, c.in-Some.ty.now) = cc (c.in-Some.ensures.parts) in
    let dest : dest_equation c.args.theorem.now.conclusion ≡ Some (c.in-Some-dest_eq.left_body.now, c.in-Some-dest_eq.right_body.now) = cc (c.in-Some-dest_eq.ensures, c.concl.ensures.value) in
    let known : knows_type c.args.self.now c.in-Some.ty.now ≡ true = cc (c.knows_type.ensures, c.if-not-knows_type.false) in
    let fresh : is_free_in_hypotheses c.in-Some.name.now c.in-Some.ty.now c.args.theorem.now.hypotheses ≡ false =
    cc (c.is_free_in_hypotheses.ensures, c.if-is_free_in_hypotheses.false, c.hyps.ensures.value) in
    let p = err_from_is_err_and c.from_residual-in_err-right.result c.from_residual-in_err-right.ensures.1 in
    rw (p.1, p.2) (elim c.in_err-right.ensures [
      | inl memory ↦ inl memory
      | inr refused ↦ inr (abs-concluded c.args.self.now c.args.binder.now c.args.theorem.now _ _ _ _ binder dest known fresh
          ∙ concluded-right c.args.self.now c.args.theorem.now.hypotheses
          (abstraction c.in-Some.name.now c.in-Some.ty.now c.in-Some-dest_eq.left_body.now)
          (abstraction c.in-Some.name.now c.in-Some.ty.now c.in-Some-dest_eq.right_body.now) _
          (sym (abstraction-limited c.args.binder.now c.in-Some-dest_eq.right_body.now _ _ binder) ∙ refused))
    ])

pub equation_theorem-requires-clause-typed : goal.equation_theorem-requires-clause-typed
equation_theorem-requires-clause-typed c =
    let binder : dest_variable c.args.binder.now ≡ Some (c.in-Some.name.now, c.in-Some.ty.now) = cc (c.in-Some.ensures.parts) in
    let dest : dest_equation c.args.theorem.now.conclusion ≡ Some (c.in-Some-dest_eq.left_body.now, c.in-Some-dest_eq.right_body.now) = cc (c.in-Some-dest_eq.ensures, c.concl.ensures.value) in
    let left : c.in_ok-left.left ≡ abstraction c.in-Some.name.now c.in-Some.ty.now c.in-Some-dest_eq.left_body.now =
    limited-is (abstraction c.in-Some.name.now c.in-Some.ty.now c.in-Some-dest_eq.left_body.now) c.in_ok-left.left
    (sym (abstraction-limited c.args.binder.now c.in-Some-dest_eq.left_body.now _ _ binder) ∙ c.in_ok-left.ensures) in
    let right : c.in_ok-right.right ≡ abstraction c.in-Some.name.now c.in-Some.ty.now c.in-Some-dest_eq.right_body.now =
    limited-is (abstraction c.in-Some.name.now c.in-Some.ty.now c.in-Some-dest_eq.right_body.now) c.in_ok-right.right
    (sym (abstraction-limited c.args.binder.now c.in-Some-dest_eq.right_body.now _ _ binder) ∙ c.in_ok-right.ensures) in
    ap type_of left ∙ abs-types c.args.self.now c.entries-entries.ensures.legal c.args.theorem.now c.requires c.concl.ensures.theorem c.in-Some.name.now c.in-Some.ty.now _ _ dest ∙ sym (ap type_of right)

pub equation_theorem-requires-clause-theorem : goal.equation_theorem-requires-clause-theorem
equation_theorem-requires-clause-theorem c = λ ty typed.
    let binder : dest_variable c.args.binder.now ≡ Some (c.in-Some.name.now, c.in-Some.ty.now) = cc (c.in-Some.ensures.parts) in
    let dest : dest_equation c.args.theorem.now.conclusion ≡ Some (c.in-Some-dest_eq.left_body.now, c.in-Some-dest_eq.right_body.now) = cc (c.in-Some-dest_eq.ensures, c.concl.ensures.value) in
    let known : knows_type c.args.self.now c.in-Some.ty.now ≡ true = cc (c.knows_type.ensures, c.if-not-knows_type.false) in
    let fresh : is_free_in_hypotheses c.in-Some.name.now c.in-Some.ty.now c.args.theorem.now.hypotheses ≡ false =
    cc (c.is_free_in_hypotheses.ensures, c.if-is_free_in_hypotheses.false, c.hyps.ensures.value) in
    let left : c.in_ok-left.left ≡ abstraction c.in-Some.name.now c.in-Some.ty.now c.in-Some-dest_eq.left_body.now =
    limited-is (abstraction c.in-Some.name.now c.in-Some.ty.now c.in-Some-dest_eq.left_body.now) c.in_ok-left.left
    (sym (abstraction-limited c.args.binder.now c.in-Some-dest_eq.left_body.now _ _ binder) ∙ c.in_ok-left.ensures) in
    let right : c.in_ok-right.right ≡ abstraction c.in-Some.name.now c.in-Some.ty.now c.in-Some-dest_eq.right_body.now =
    limited-is (abstraction c.in-Some.name.now c.in-Some.ty.now c.in-Some-dest_eq.right_body.now) c.in_ok-right.right
    (sym (abstraction-limited c.args.binder.now c.in-Some-dest_eq.right_body.now _ _ binder) ∙ c.in_ok-right.ensures) in
    rw (left, right) (theorem-alike _ _ _ _ _ _ c.entries-entries.ensures.value (c.in_ok-hypotheses.ensures.ok ∙ c.hyps-2.ensures.value) refl
    (abs-theorem c.args.self.now c.entries-entries.ensures.legal c.args.theorem.now c.requires c.concl.ensures.theorem _ _ _ _ dest known fresh))

pub returns-clause-outcome : goal.returns-clause-outcome
returns-clause-outcome c =
    let binder : dest_variable c.args.binder.now ≡ Some (c.in-Some.name.now, c.in-Some.ty.now) = cc (c.in-Some.ensures.parts) in
    let dest : dest_equation c.args.theorem.now.conclusion ≡ Some (c.in-Some-dest_eq.left_body.now, c.in-Some-dest_eq.right_body.now) = cc (c.in-Some-dest_eq.ensures, c.concl.ensures.value) in
    let known : knows_type c.args.self.now c.in-Some.ty.now ≡ true = cc (c.knows_type.ensures, c.if-not-knows_type.false) in
    let fresh : is_free_in_hypotheses c.in-Some.name.now c.in-Some.ty.now c.args.theorem.now.hypotheses ≡ false =
    cc (c.is_free_in_hypotheses.ensures, c.if-is_free_in_hypotheses.false, c.hyps.ensures.value) in
    let left : c.in_ok-left.left ≡ abstraction c.in-Some.name.now c.in-Some.ty.now c.in-Some-dest_eq.left_body.now =
    limited-is (abstraction c.in-Some.name.now c.in-Some.ty.now c.in-Some-dest_eq.left_body.now) c.in_ok-left.left
    (sym (abstraction-limited c.args.binder.now c.in-Some-dest_eq.left_body.now _ _ binder) ∙ c.in_ok-left.ensures) in
    let right : c.in_ok-right.right ≡ abstraction c.in-Some.name.now c.in-Some.ty.now c.in-Some-dest_eq.right_body.now =
    limited-is (abstraction c.in-Some.name.now c.in-Some.ty.now c.in-Some-dest_eq.right_body.now) c.in_ok-right.right
    (sym (abstraction-limited c.args.binder.now c.in-Some-dest_eq.right_body.now _ _ binder) ∙ c.in_ok-right.ensures) in
    answers-concluded _ _ _ _ _ _ _ _ _ _ (abs-concluded c.args.self.now c.args.binder.now c.args.theorem.now _ _ _ _ binder dest known fresh)
    c.entries-entries.ensures.value (c.in_ok-hypotheses.ensures.ok ∙ c.hyps-2.ensures.value) left right c.equation_theorem.ensures.outcome
