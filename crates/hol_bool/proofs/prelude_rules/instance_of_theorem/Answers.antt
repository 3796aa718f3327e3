use Rattle.std.proofs.Common.{[], ◌∷◌, ◌∙◌, map, sym, subst, refl}
use Rattle.std.specs.List.{list_all}
use Rattle.hol_model.specs.Terms.HolType.{bool_type}
use Rattle.hol_model.specs.Terms.Nameless.{Nameless, image}
use Rattle.hol_model.specs.Terms.Measures.{nameless_within_limits}
use Rattle.hol_model.specs.Logic.Derivable.{nameless_equation}
use Rattle.hol_model.specs.Logic.Theory.{Theory}
use Rattle.hol_model.specs.Kernel.Instantiation.{instantiate_all}
use Rattle.hol_equal.specs.Formulas.{IsFormula}
use Rattle.hol_equal.specs.Sequents.{Shows, instance_of}
use Rattle.hol_equal.proofs.Sizes.{past-room}
use Rattle.hol_equal.proofs.CutLemmas.{derives-where}
use Rattle.hol_equal.proofs.StepLemmas.{passed_on}
use Rattle.hol_bool.proofs.PreludeSteps.{leads-shows, says-shows, concludes-shows, instance-fits, says-fits, equation-fits}
use Rattle.hol_bool.proofs.prelude_rules.instance_of_theorem.Goals as goal

pub returns-in_err-answer-clause-derives : goal.returns-in_err-answer-clause-derives
returns-in_err-answer-clause-derives c premise room leads =
    let theory = c.args.recorder.now.theory in
    let terms = c.args.terms.now in
    let stated = image c.args.stated.now in
    let at = instance_of [] terms in
    let p = image leads.hypothesis in
    let d = image leads.stated in
    rw (passed_on c.from_residual.result c.in_err-answer.field-0.0 c.from_residual.ensures.1)
    (past-room c.in_err-answer.field-0.0 (list_all nameless_within_limits (instantiate_all [] d ∷ instantiate_all [] p ∷ at d ∷ at p ∷ [])) room
    (c.in_err-answer.ensures.derives refl leads.may_replace (p ∷ []) d
    (leads-shows theory c.args.number terms room premise stated leads c.theorem_of-lemma.result.now.theorem c.theorem_of-lemma.ensures.theorem))
    (instance-fits theory c.args.number terms room premise stated leads))

pub returns-clause-derives : goal.returns-clause-derives
returns-clause-derives c premise room leads =
    let theory = c.args.recorder.now.theory in
    let terms = c.args.terms.now in
    let stated = image c.args.stated.now in
    let at = instance_of [] terms in
    let p = image leads.hypothesis in
    let d = image leads.stated in
    let answer : Shows c.in_ok-answer.answer.theorem (at p ∷ []) (at d) =
    c.in_ok-answer.ensures.derives refl leads.may_replace (p ∷ []) d
    (leads-shows theory c.args.number terms room premise stated leads c.theorem_of-lemma.result.now.theorem c.theorem_of-lemma.ensures.theorem) in
    let named : Shows c.in_ok-answer.answer.theorem (premise ∷ []) stated =
    subst (λ (t : Nameless). Shows c.in_ok-answer.answer.theorem (t ∷ []) stated) (sym leads.premise_is)
    (subst (λ (t : Nameless). Shows c.in_ok-answer.answer.theorem (at p ∷ []) t) (sym leads.conclusion_is) answer) in
    derives-where (nameless_within_limits (nameless_equation bool_type stated stated)) room c.named_same.result (premise ∷ []) stated
    (equation-fits room stated stated leads.conclusion_fits leads.conclusion_fits)
    (c.named_same.ensures.derives (premise ∷ []) named)

pub returns-in_err-answer-clause-says : goal.returns-in_err-answer-clause-says
returns-in_err-answer-clause-says c room says =
    let theory = c.args.recorder.now.theory in
    let terms = c.args.terms.now in
    let stated = image c.args.stated.now in
    let d = image says.stated in
    rw (passed_on c.from_residual.result c.in_err-answer.field-0.0 c.from_residual.ensures.1)
    (past-room c.in_err-answer.field-0.0 (list_all nameless_within_limits (instantiate_all [] d ∷ instance_of [] terms d ∷ [])) room
    (c.in_err-answer.ensures.derives refl says.may_replace [] d (says-shows theory c.args.number terms room stated says c.theorem_of-lemma.result.now.theorem c.theorem_of-lemma.ensures.theorem))
    (says-fits theory c.args.number terms room stated says))

pub returns-clause-says : goal.returns-clause-says
returns-clause-says c room says =
    let theory = c.args.recorder.now.theory in
    let terms = c.args.terms.now in
    let stated = image c.args.stated.now in
    let d = image says.stated in
    let answer : Shows c.in_ok-answer.answer.theorem [] (instance_of [] terms d) =
    c.in_ok-answer.ensures.derives refl says.may_replace [] d (says-shows theory c.args.number terms room stated says c.theorem_of-lemma.result.now.theorem c.theorem_of-lemma.ensures.theorem) in
    derives-where (nameless_within_limits (nameless_equation bool_type stated stated)) room c.named_same.result [] stated
    (equation-fits room stated stated says.conclusion_fits says.conclusion_fits)
    (c.named_same.ensures.derives [] (subst (λ (t : Nameless). Shows c.in_ok-answer.answer.theorem [] t) (sym says.conclusion_is) answer))

pub named_same-requires-clause-formula : goal.named_same-requires-clause-formula
named_same-requires-clause-formula c = subst (λ (t : Theory). IsFormula t c.args.stated.now) (sym c.in_ok-answer.ensures.continues.theory) c.requires.stated

pub instance_known-requires-clause-known : goal.instance_known-requires-clause-known
instance_known-requires-clause-known c = c.requires.concludes.may_replace

pub named_same-requires-clause-same : goal.named_same-requires-clause-same
named_same-requires-clause-same c =
    let stated = image c.args.stated.now in
    let terms = c.args.terms.now in
    let concludes = c.requires.concludes in
    let h = map image concludes.hypotheses in
    let d = image concludes.stated in
    let answer : Shows c.in_ok-answer.answer.theorem (map (instance_of [] terms) h) (instance_of [] terms d) =
    c.in_ok-answer.ensures.derives refl concludes.may_replace h d
    (concludes-shows c.args.recorder.now.theory c.args.number terms stated concludes c.theorem_of-lemma.result.now.theorem c.theorem_of-lemma.ensures.theorem) in
    answer.concludes ∙ sym concludes.conclusion_is
