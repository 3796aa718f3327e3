use Rattle.std.proofs.Common.{inl, inr}
use Rattle.std.proofs.lemmas.Result.{err_from_is_err_and}
use Rattle.hol_model.specs.Terms.NamedTerm.{equation}
use Rattle.hol_kernel.proofs.LimitLemmas.{concluded-refused}
use Rattle.hol_kernel.proofs.rules.equation_theorem.Goals as goal

pub returns-in_err-conclusion-clause-outcome : goal.returns-in_err-conclusion-clause-outcome
returns-in_err-conclusion-clause-outcome c =
    let p = err_from_is_err_and c.from_residual.result c.from_residual.ensures.1 in
    rw (p.1, p.2) (elim c.in_err-conclusion.ensures [
      | inl memory ↦ inl memory
      | inr refused ↦ inr (concluded-refused c.args.entries.now c.args.hypotheses.items (equation c.args.left.now c.args.right.now) _ refused)
    ])
