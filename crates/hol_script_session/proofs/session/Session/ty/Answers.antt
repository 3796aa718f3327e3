use Rattle.std.proofs.Common.{◌≡◌, subst, sym, Ok, Err}
use Rattle.std.proofs.lemmas.Result.{err_from_is_err_and}
use Rattle.hol_model.specs.Kernel.Outcome.{Answers}
use Rattle.hol_model.specs.Terms.HolType.{HolType}
use Rattle.hol_model.specs.Texts.Reading.{Scope, type_meaning}
use Rattle.hol_script_session.proofs.SessionLemmas.{scope_same}
use Rattle.hol_script_session.proofs.ReadLemmas.{read_type_passes}
use Rattle.hol_script_session.proofs.session.Session.ty.Goals as goal

pub returns-in_err-ty-clause-reads : goal.returns-in_err-ty-clause-reads
returns-in_err-ty-clause-reads c = λ tree same.
    let p = err_from_is_err_and c.from_residual.result c.from_residual.ensures.1 in
    rw (p.1, p.2)
    (subst (λ (scope : Scope). Answers {A = HolType} (Err c.in_err-ty.field-0.0) (type_meaning scope tree)) (scope_same c.args.self.now c.requires) (c.in_err-ty.ensures tree same))

pub returns-then-not-knows_type-clause-reads : goal.returns-then-not-knows_type-clause-reads
returns-then-not-knows_type-clause-reads c = λ tree same.
    absurd (read_type_passes c.args.self.now tree c.in_ok-ty.ty c.requires
    (subst (λ (scope : Scope). type_meaning scope tree ≡ Ok c.in_ok-ty.ty) (scope_same c.args.self.now c.requires) (c.in_ok-ty.ensures tree same))
    (sym (rw c.theory.ensures at c.if-not-knows_type.ensures)))
