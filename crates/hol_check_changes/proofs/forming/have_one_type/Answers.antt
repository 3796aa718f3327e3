use Rattle.std.proofs.Common.{◌≡◌, ◌∙◌, ap}
use Rattle.hol_model.specs.Terms.Measures.{nameless_within_limits}
use Rattle.hol_model.specs.Terms.HolType.{type_eq}
use Rattle.hol_model.specs.Logs.LogState.{term_type}
use Rattle.hol_check_terms.specs.Terms.{type_at, term_at}
use Rattle.hol_check_terms.proofs.TableLemmas.{is_within}
use Rattle.hol_check_changes.proofs.forming.have_one_type.Goals as goal
use Rattle.hol_check_terms.proofs.GrowthLemmas.{type-grown, type-there, within-grown, term-grown, IsGrown-trans}

pub fitting_type-requires-2 : goal.fitting_type-requires-2
fitting_type-requires-2 c =
    let t0 = c.args.terms.now in
    let t1 = c.fitting_type.new.terms in
    let second = c.requires.second in
    record {
      within = within-grown t0 t1 c.args.second c.fitting_type.ensures.grows second.within;
      fits = ap nameless_within_limits (term-grown t0 t1 c.args.second c.fitting_type.ensures.grows second.within) ∙ second.fits;
    }

pub returns-clause-one : goal.returns-clause-one
returns-clause-one c =
    let t0 = c.args.terms.now in
    let t1 = c.fitting_type.new.terms in
    let t2 = c.fitting_type-2.new.terms in
    let within = is_within t1.types c.in_ok-first_ty.first_ty _ c.in_ok-first_ty.ensures.number in
    let first : type_at t2.types c.in_ok-first_ty.first_ty ≡ term_type (term_at t0.terms c.args.first) =
    type-grown t1.types t2.types c.in_ok-first_ty.first_ty c.fitting_type-2.ensures.grows.types within ∙ type-there t1.types c.in_ok-first_ty.first_ty _ c.in_ok-first_ty.ensures.number in
    let second : type_at t2.types c.in_ok-second_ty.second_ty ≡ term_type (term_at t0.terms c.args.second) =
    type-there t2.types c.in_ok-second_ty.second_ty _ c.in_ok-second_ty.ensures.number ∙ ap term_type (term-grown t0 t1 c.args.second c.fitting_type.ensures.grows c.requires.second.within) in
    c.is_same_type.ensures ∙ (λ i. type_eq (first i) (second i))

pub returns-clause-grows : goal.returns-clause-grows
returns-clause-grows c = IsGrown-trans c.args.terms.now c.fitting_type.new.terms c.fitting_type-2.new.terms c.fitting_type.ensures.grows c.fitting_type-2.ensures.grows
