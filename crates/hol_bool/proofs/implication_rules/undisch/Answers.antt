use Rattle.std.proofs.Common.{◌≡◌, ◌∷◌, true, Option, sym, subst, ap, refl, inl}
use Rattle.hol_model.specs.declared.fault.Fault.TheVariants.{BadShape}
use Rattle.hol_model.specs.Terms.NamedTerm.{NamedTerm}
use Rattle.hol_model.specs.Terms.Nameless.{Nameless, image}
use Rattle.hol_model.specs.Kernel.Outcome.{given}
use Rattle.hol_model.specs.Derived.DerivedRules.{images, stated, terms_of_theorem, undisch_outcome}
use Rattle.hol_equal.specs.Room.{IsSized}
use Rattle.hol_equal.specs.Sequents.{Shows}
use Rattle.hol_equal.proofs.CutLemmas.{shows-itself}
use Rattle.hol_bool.proofs.RuleAnswers.{answered}
use Rattle.hol_bool.proofs.ConjunctionAnswers.{mp-equation-fits, stated-roomy}
use Rattle.hol_bool.proofs.InferredRules.{infers_undisch}
use Rattle.hol_bool.proofs.implication_rules.undisch.Goals as goal

pub returns-clause-outcome : goal.returns-clause-outcome
returns-clause-outcome c =
    let premise = c.args.premise.now.theorem in
    let a = c.in-Some.sides.left.now in
    let b = c.in-Some.sides.right.now in
    let parts = c.in-Some.ensures.parts in
    let wanted = image a ∷ images premise in
    answered c.undisch_in_room.result (terms_of_theorem premise) wanted wanted b (undisch_outcome premise)
    (ap (λ (o : Option (NamedTerm × NamedTerm)). given o BadShape (λ sides. stated (image sides.0 ∷ images premise) sides.1)) (sym c.in-Some.ensures.sides))
    (record { to = λ x m. m; back = λ x m. m })
    (λ room roomy. c.undisch_in_room.ensures.derives (images premise) room
    (subst (λ (t : Nameless). Shows premise (images premise) t) (ap image parts.is) (shows-itself premise))
    (mp-equation-fits room (image a) (image b) (subst (λ (t : Nameless). room ≡ true → IsSized 1000 5000 t) (ap image parts.is) (roomy (image premise.conclusion) (inl refl)))
    (stated-roomy room (terms_of_theorem premise) wanted (image b) roomy)))
    c.undisch_in_room.ensures.names

pub returns-clause-inferred : goal.returns-clause-inferred
returns-clause-inferred c = infers_undisch c.requires.logic c.in-Some.ensures.legal c.in-Some.ensures.formula (returns-clause-outcome c)
