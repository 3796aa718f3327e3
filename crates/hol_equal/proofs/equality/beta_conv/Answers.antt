use Rattle.std.proofs.Common.{[], sym, subst, Ok}
use Rattle.hol_model.specs.Terms.Nameless.{image}
use Rattle.hol_model.specs.Logic.Theory.{Theory, IsKnown}
use Rattle.hol_journal.proofs.GrowthLemmas.{journals-grow}
use Rattle.hol_equal.proofs.LeftSide.{converted-refused, is-converted, term-known, reflexive-past, left-stated, reflexive-left, kept-left}
use Rattle.hol_equal.proofs.StepLemmas.{continues-twice, is_known-where, trans-fits, passed_on}
use Rattle.hol_equal.proofs.InferredEquality.{infers_beta_conv}
use Rattle.hol_equal.proofs.equality.beta_conv.Goals as goal

pub refl_known-requires : goal.refl_known-requires
refl_known-requires c =
    let theory = c.args.recorder.now.theory in
    let term = c.args.term.now in
    let ty = c.ty-type.result.now in
    let converted = is-converted theory term ty c.ty-type.ensures c.in_ok-converted.converted.theorem c.in_ok-converted.ensures.outcome in
    is_known-where c.beta_converted.new.recorder.theory term ty
    (subst (λ (th : Theory). IsKnown th (image term) ty) (sym c.in_ok-converted.ensures.continues.theory) (term-known theory term ty c.ty-type.ensures c.in_ok-converted.converted.theorem converted))

pub trans_known-requires-clause-second : goal.trans_known-requires-clause-second
trans_known-requires-clause-second c =
    journals-grow.stays c.beta_converted.new.recorder c.refl_known.new.recorder c.in_ok-converted.converted c.in_ok-same.ensures.continues.grown c.in_ok-converted.ensures.continues.held.made

pub trans_known-requires-clause-fits : goal.trans_known-requires-clause-fits
trans_known-requires-clause-fits c =
    let theory = c.args.recorder.now.theory in
    let term = c.args.term.now in
    let ty = c.ty-type.result.now in
    let converted = is-converted theory term ty c.ty-type.ensures c.in_ok-converted.converted.theorem c.in_ok-converted.ensures.outcome in
    let known = term-known theory term ty c.ty-type.ensures c.in_ok-converted.converted.theorem converted in
    let same = c.in_ok-same.ensures.derives ty (subst (λ (th : Theory). IsKnown th (image term) ty) (sym c.in_ok-converted.ensures.continues.theory) known) in
    trans-fits c.in_ok-same.same.theorem c.in_ok-converted.converted.theorem [] [] ty (image term) (image term) converted.right same converted.shows

pub returns-in_err-converted-clause-outcome : goal.returns-in_err-converted-clause-outcome
returns-in_err-converted-clause-outcome c =
    rw (passed_on c.from_residual.result c.in_err-converted.field-0.0 c.from_residual.ensures.1)
    (converted-refused c.args.recorder.now.theory c.args.term.now c.ty-type.result.now c.ty-type.ensures c.in_err-converted.field-0.0 c.in_err-converted.ensures.outcome)

pub returns-in_err-converted-clause-inferred : goal.returns-in_err-converted-clause-inferred
returns-in_err-converted-clause-inferred c = infers_beta_conv c.ty-type.ensures (returns-in_err-converted-clause-outcome c)

pub returns-in_err-same-clause-outcome : goal.returns-in_err-same-clause-outcome
returns-in_err-same-clause-outcome c =
    let theory = c.args.recorder.now.theory in
    let term = c.args.term.now in
    let ty = c.ty-type.result.now in
    let converted = is-converted theory term ty c.ty-type.ensures c.in_ok-converted.converted.theorem c.in_ok-converted.ensures.outcome in
    let known = term-known theory term ty c.ty-type.ensures c.in_ok-converted.converted.theorem converted in
    rw (passed_on c.from_residual-in_err-same.result c.in_err-same.field-0.0 c.from_residual-in_err-same.ensures.1)
    (reflexive-past theory term ty c.ty-type.ensures c.in_ok-converted.converted.theorem converted c.in_err-same.field-0.0
    (c.in_err-same.ensures.derives ty (subst (λ (th : Theory). IsKnown th (image term) ty) (sym c.in_ok-converted.ensures.continues.theory) known)))

pub returns-in_err-same-clause-inferred : goal.returns-in_err-same-clause-inferred
returns-in_err-same-clause-inferred c = infers_beta_conv c.ty-type.ensures (returns-in_err-same-clause-outcome c)

pub returns-clause-outcome : goal.returns-clause-outcome
returns-clause-outcome c =
    let theory = c.args.recorder.now.theory in
    let term = c.args.term.now in
    let ty = c.ty-type.result.now in
    let converted = is-converted theory term ty c.ty-type.ensures c.in_ok-converted.converted.theorem c.in_ok-converted.ensures.outcome in
    let known = term-known theory term ty c.ty-type.ensures c.in_ok-converted.converted.theorem converted in
    let same = c.in_ok-same.ensures.derives ty (subst (λ (th : Theory). IsKnown th (image term) ty) (sym c.in_ok-converted.ensures.continues.theory) known) in
    left-stated theory term ty c.ty-type.ensures c.in_ok-converted.converted.theorem converted c.trans_known.result
    (c.trans_known.ensures.derives [] [] ty (image term) (image term) converted.right same converted.shows)
    (kept-left term c.in_ok-same.same.theorem c.trans_known.result c.trans_known.ensures.names (reflexive-left term c.in_ok-same.same.theorem c.in_ok-same.ensures.names))

pub returns-clause-inferred : goal.returns-clause-inferred
returns-clause-inferred c = infers_beta_conv c.ty-type.ensures (returns-clause-outcome c)

pub returns-clause-continues : goal.returns-clause-continues
returns-clause-continues c =
    continues-twice c.args.recorder.now c.beta_converted.new.recorder c.trans_known.new.recorder (Ok c.in_ok-converted.converted) c.trans_known.result c.in_ok-converted.ensures.continues
    (continues-twice c.beta_converted.new.recorder c.refl_known.new.recorder c.trans_known.new.recorder (Ok c.in_ok-same.same) c.trans_known.result
    c.in_ok-same.ensures.continues c.trans_known.ensures.continues)
