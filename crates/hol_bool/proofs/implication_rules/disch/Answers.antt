use Rattle.std.proofs.Common.{◌≡◌, ◌∷◌, refl, inl, inr}
use Rattle.hol_model.specs.Terms.Nameless.{image}
use Rattle.hol_model.specs.Logic.Derivable.{without}
use Rattle.hol_model.specs.Logic.NamedLogic.{implication}
use Rattle.hol_model.specs.Derived.DerivedRules.{images, stated, terms_of_theorem, disch_outcome}
use Rattle.hol_equal.proofs.CutLemmas.{shows-itself}
use Rattle.hol_bool.proofs.RuleAnswers.{answered}
use Rattle.hol_bool.proofs.ImplicationAnswers.{disch-fits}
use Rattle.hol_bool.proofs.InferredRules.{infers_disch}
use Rattle.hol_bool.proofs.Passing.{unchanged}
use Rattle.hol_bool.proofs.implication_rules.disch.Goals as goal

pub returns-clause-outcome : goal.returns-clause-outcome
returns-clause-outcome c =
    let theory = c.args.recorder.now.theory in
    let p = c.args.p.now in
    let premise = c.args.premise.now.theorem in
    let passed = c.in_ok-pass_formula.ensures.ok in
    let wanted = without (image p) (images premise) in
    let outcome : disch_outcome theory p premise ≡ stated wanted (implication p premise.conclusion) = rw (passed.is_formula, passed.is_known) refl in
    answered c.disch_in_room.result (image p ∷ terms_of_theorem premise) wanted wanted (implication p premise.conclusion)
    (disch_outcome theory p premise) outcome (record { to = λ x m. m; back = λ x m. m })
    (λ room roomy. c.disch_in_room.ensures.derives (images premise) (image premise.conclusion) room (shows-itself premise)
    (disch-fits room (image p) (image premise.conclusion) (roomy (image p) (inl refl)) (roomy (image premise.conclusion) (inr (inl refl)))))
    c.disch_in_room.ensures.names

pub returns-clause-inferred : goal.returns-clause-inferred
returns-clause-inferred c = infers_disch c.ty-type.ensures (returns-clause-outcome c)

pub returns-in_err-pass_formula-clause-continues : goal.returns-in_err-pass_formula-clause-continues
returns-in_err-pass_formula-clause-continues c = unchanged c.args.recorder.now c.from_residual.result c.from_residual.ensures.0
