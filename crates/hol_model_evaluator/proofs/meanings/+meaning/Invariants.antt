use Rattle.std.proofs.Common.{◌≡◌, ◌+◌, ◌∷◌, map, take}
use Rattle.hol_model.specs.Terms.Measures.{nameless_nodes}
use Rattle.hol_model.specs.Models.Models as models
use Rattle.hol_model_evaluator.specs.Trees.{hol_type, nameless, theory_of}
use Rattle.hol_model_evaluator.specs.Interpretations.{model_of}
use Rattle.hol_model_evaluator.specs.Frames.{types_of}
use Rattle.hol_model_evaluator.specs.BinderFrames.{values_under}
use Rattle.hol_model_evaluator.specs.TheoryNodes.{theory_nodes}
use Rattle.hol_model_evaluator.proofs.meanings.+meaning.Given as goal

abbrev pub decreases-constant_meaning : goal.decreases-constant_meaning
decreases-constant_meaning l = theory_nodes (theory_of l.theory.now)

abbrev pub decreases-meaning : goal.decreases-meaning
decreases-meaning l = nameless_nodes (nameless l.term.now) + theory_nodes (theory_of l.theory.now)

abbrev pub invariant-meaning-loop-element : goal.invariant-meaning-loop-element
invariant-meaning-loop-element l =
    l.tabulated.items
    ≡ map (λ v. models.meaning (models.constant_meaning (theory_of l.theory) (model_of l.model)) (model_of l.model) (hol_type l.ty.now ∷ types_of l.types) (v ∷ values_under l.values)
    (nameless l.body.now))
    (take l.element-index l.element-items)
