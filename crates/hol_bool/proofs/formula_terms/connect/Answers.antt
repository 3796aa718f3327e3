use Rattle.std.proofs.Common.{◌≡◌, ◌∙◌, ap, subst, Err}
use Rattle.hol_model.specs.Terms.HolType.{bool_type}
use Rattle.hol_model.specs.Terms.NamedTerm.{NamedTerm, constant, combination}
use Rattle.hol_model.specs.Terms.Nameless.{image}
use Rattle.hol_model.specs.Logic.Logic.{binary, unary}
use Rattle.hol_model.specs.Kernel.Outcome.{Answers}
use Rattle.hol_model.specs.Kernel.Constructors.{combination_outcome}
use Rattle.hol_kernel.proofs.LimitLemmas.{applied}
use Rattle.hol_bool.proofs.RoomLemmas.{fits-function, made-combination, half-typed, connected-typed}
use Rattle.hol_equal.proofs.StepLemmas.{passed_on}
use Rattle.hol_bool.proofs.formula_terms.connect.Goals as goal

pub returns-in_err-applied : goal.returns-in_err-applied
returns-in_err-applied c room left_typed right_typed fits =
    let name = c.args.name.now in
    let left = c.args.left.now in
    let right = c.args.right.now in
    let half = combination (constant name binary) left in
    rw (passed_on c.from_residual-in_err-applied.result c.in_err-applied.field-0.0 c.from_residual-in_err-applied.ensures.1)
    (made-combination (Err c.in_err-applied.field-0.0) (constant name binary) left unary room (half-typed name left left_typed) (fits-function room (image half) (image right) fits)
    (subst (λ (t : NamedTerm). Answers {A = NamedTerm} (Err c.in_err-applied.field-0.0) (combination_outcome t left)) c.in_ok-connective.ensures.ok c.in_err-applied.ensures.outcome))

pub returns : goal.returns
returns c room left_typed right_typed fits =
    let name = c.args.name.now in
    let left = c.args.left.now in
    let right = c.args.right.now in
    let half = combination (constant name binary) left in
    let applied_is : c.in_ok-applied.applied ≡ half =
    (applied c.in_ok-connective.connective left c.in_ok-applied.applied c.in_ok-applied.ensures.outcome).is ∙ ap (λ (t : NamedTerm). combination t left) c.in_ok-connective.ensures.ok in
    made-combination c.mk_comb-2.result half right bool_type room (connected-typed name left right left_typed right_typed) fits
    (subst (λ (t : NamedTerm). Answers c.mk_comb-2.result (combination_outcome t right)) applied_is c.mk_comb-2.ensures.outcome)
