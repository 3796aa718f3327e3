use Rattle.std.proofs.Common.{◌∷◌, ◌++◌, refl}
use Rattle.hol_model.specs.Terms.Nameless.{image}
use Rattle.hol_model.specs.Logic.NamedLogic.{conjunction}
use Rattle.hol_model.specs.Derived.DerivedRules.{images, terms_of_theorem, conj_outcome}
use Rattle.hol_equal.proofs.CutLemmas.{shows-itself}
use Rattle.hol_bool.proofs.RuleAnswers.{answered}
use Rattle.hol_bool.proofs.ConjunctionAnswers.{conj-equation-fits, first-roomy, second-roomy}
use Rattle.hol_bool.proofs.InferredRules.{infers_conj}
use Rattle.hol_bool.proofs.conjunction_rules.conj.Goals as goal

pub returns-clause-outcome : goal.returns-clause-outcome
returns-clause-outcome c =
    let first = c.args.first.now.theorem in
    let second = c.args.second.now.theorem in
    let wanted = images first ++ images second in
    let both = conjunction first.conclusion second.conclusion in
    answered c.conj_in_room.result (terms_of_theorem first ++ terms_of_theorem second) wanted wanted both (conj_outcome first second) refl (record { to = λ x m. m; back = λ x m. m })
    (λ room roomy. c.conj_in_room.ensures.conjoins.1 (images first) (images second) (image first.conclusion) (image second.conclusion) room (shows-itself first) (shows-itself second)
    (conj-equation-fits room (image first.conclusion) (image second.conclusion) (first-roomy room first second (image both ∷ wanted) roomy)
    (second-roomy room first second (image both ∷ wanted) roomy)))
    c.conj_in_room.ensures.conjoins.0

pub returns-clause-inferred : goal.returns-clause-inferred
returns-clause-inferred c = infers_conj (returns-clause-outcome c)
