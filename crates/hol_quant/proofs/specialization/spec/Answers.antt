use Rattle.std.proofs.Common.{refl}
use Rattle.hol_model.specs.Logic.Logic.{forall_name, quantifier}
use Rattle.hol_model.specs.Logic.Theory.{type_a}
use Rattle.hol_bool.proofs.LogicLemmas.{logical-type}
use Rattle.hol_quant.proofs.PreludeParts.{forall-shows}
use Rattle.hol_quant.proofs.InferredQuantifiers.{infers_spec}
use Rattle.hol_quant.proofs.specialization.spec.Goals as goal

pub spec_by_lemma-requires-clause-shows : goal.spec_by_lemma-requires-clause-shows
spec_by_lemma-requires-clause-shows c = forall-shows c.theorem_of-lemma.result.now.theorem c.theorem_of-lemma.ensures.theorem

pub spec_by_lemma-requires-clause-generic : goal.spec_by_lemma-requires-clause-generic
spec_by_lemma-requires-clause-generic c = logical-type c.args.recorder.now c.args.logic.now c.requires.logic c.conclusion_of-conclusion.ensures.legal forall_name (quantifier type_a) refl

pub returns-clause-inferred : goal.returns-clause-inferred
returns-clause-inferred c = infers_spec c.requires.logic c.conclusion_of-conclusion.ensures.legal c.ty-type.ensures c.conclusion_of-conclusion.ensures.formula c.spec_by_lemma.ensures.outcome
