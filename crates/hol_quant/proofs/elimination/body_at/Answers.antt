use Rattle.std.proofs.Common.{◌≡◌, ◌∷◌, [], List}
use Rattle.hol_model.specs.Terms.NamedTerm.{NamedTerm}
use Rattle.hol_quant.proofs.VariableLemmas.{substituted-is, substituted-memory}
use Rattle.hol_quant.proofs.elimination.body_at.Goals as goal

pub returns-clause-ok : goal.returns-clause-ok
returns-clause-ok c =
    let theta : List (NamedTerm × NamedTerm) = (c.in_ok-new.new, c.in_ok-old.old) ∷ [] in
    let theta_is : theta ≡ (c.args.argument.now, c.args.binder.now) ∷ [] = λ i. (c.in_ok-new.ensures.ok i, c.in_ok-old.ensures.ok i) ∷ [] in
    substituted-is c.vsubst.result theta c.args.body.now c.args.binder.now c.args.argument.now theta_is c.vsubst.ensures.outcome

pub returns-clause-err : goal.returns-clause-err
returns-clause-err c =
    let theta : List (NamedTerm × NamedTerm) = (c.in_ok-new.new, c.in_ok-old.old) ∷ [] in
    let theta_is : theta ≡ (c.args.argument.now, c.args.binder.now) ∷ [] = λ i. (c.in_ok-new.ensures.ok i, c.in_ok-old.ensures.ok i) ∷ [] in
    substituted-memory c.vsubst.result theta c.args.body.now c.args.binder.now c.args.argument.now theta_is c.well_formed-2.ensures.within_limits c.vsubst.ensures.outcome
