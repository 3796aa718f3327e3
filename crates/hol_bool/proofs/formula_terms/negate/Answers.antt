use Rattle.std.proofs.Common.{subst}
use Rattle.hol_model.specs.Terms.HolType.{bool_type}
use Rattle.hol_model.specs.Terms.NamedTerm.{NamedTerm, constant}
use Rattle.hol_model.specs.Logic.Logic.{not_name, unary}
use Rattle.hol_model.specs.Kernel.Outcome.{Answers}
use Rattle.hol_model.specs.Kernel.Constructors.{combination_outcome}
use Rattle.hol_bool.proofs.RoomLemmas.{made-combination, negation-typed}
use Rattle.hol_bool.proofs.formula_terms.negate.Goals as goal

pub returns : goal.returns
returns c room typed fits =
    let part = c.args.part.now in
    made-combination c.mk_comb.result (constant not_name unary) part bool_type room (negation-typed part typed) fits
    (subst (λ (t : NamedTerm). Answers c.mk_comb.result (combination_outcome t part)) c.in_ok-connective.ensures.ok c.mk_comb.ensures.outcome)
