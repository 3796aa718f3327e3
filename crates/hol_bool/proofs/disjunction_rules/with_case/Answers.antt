use Rattle.std.proofs.Common.{◌∙◌, sym, ap}
use Rattle.hol_model.specs.Terms.Nameless.{Nameless, image}
use Rattle.hol_model.specs.Logic.Derivable.{without}
use Rattle.hol_model.specs.Logic.Logic as nameless
use Rattle.hol_equal.proofs.StepLemmas.{passed_on}
use Rattle.hol_bool.proofs.disjunction_rules.with_case.Goals as goal

pub returns-in_err-implication-clause-derives : goal.returns-in_err-implication-clause-derives
returns-in_err-implication-clause-derives c h k r room whole case case_fits whole_fits =
    rw (passed_on c.from_residual.result c.in_err-implication.field-0.0 c.from_residual.ensures.1)
    (c.in_err-implication.ensures.derives k r room case case_fits)

pub returns-clause-derives : goal.returns-clause-derives
returns-clause-derives c h k r room whole case case_fits whole_fits =
    let p = image c.args.p.now in
    c.mp_known.ensures.derives h (without p k) (nameless.implication p r) room whole (c.in_ok-implication.ensures.derives k r room case case_fits) whole_fits

pub mp_known-requires-clause-fits : goal.mp_known-requires-clause-fits
mp_known-requires-clause-fits c =
    c.requires.fits ∙ ap (λ (u : Nameless). nameless.implication u (image c.args.consequent.now)) (ap image (sym c.in_ok-implication.ensures.names))
