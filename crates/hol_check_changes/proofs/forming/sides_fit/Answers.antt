use Rattle.std.proofs.Common.{◌≡◌, ◌∙◌, ap}
use Rattle.hol_model.specs.Logs.LogSequents.{side_type}
use Rattle.hol_model.specs.Logs.LogFaults.{takes}
use Rattle.hol_check_terms.specs.Terms.{type_at, term_at}
use Rattle.hol_check_terms.proofs.TableLemmas.{is_within}
use Rattle.hol_check_changes.proofs.forming.sides_fit.Goals as goal
use Rattle.hol_check_terms.proofs.GrowthLemmas.{type-grown, type-there, term-grown, IsGrown-trans}

pub returns-clause-fit : goal.returns-clause-fit
returns-clause-fit c =
    let t0 = c.args.terms.now in
    let t1 = c.side_type.new.terms in
    let t2 = c.side_type-2.new.terms in
    let within = is_within t1.types c.in_ok-function.function _ c.in_ok-function.ensures.number in
    let function : type_at t2.types c.in_ok-function.function ≡ side_type (term_at t0.terms c.args.first) =
    type-grown t1.types t2.types c.in_ok-function.function c.side_type-2.ensures.grows.types within ∙ type-there t1.types c.in_ok-function.function _ c.in_ok-function.ensures.number in
    let argument : type_at t2.types c.in_ok-argument.argument ≡ side_type (term_at t0.terms c.args.second) =
    type-there t2.types c.in_ok-argument.argument _ c.in_ok-argument.ensures.number ∙ ap side_type (term-grown t0 t1 c.args.second c.side_type.ensures.grows c.requires.second) in
    c.takes.ensures ∙ (λ i. takes (function i) (argument i))

pub returns-clause-grows : goal.returns-clause-grows
returns-clause-grows c = IsGrown-trans c.args.terms.now c.side_type.new.terms c.side_type-2.new.terms c.side_type.ensures.grows c.side_type-2.ensures.grows
