use Rattle.std.proofs.Common.{◌≡◌, ◌∙◌, [], ◌∷◌, ◌++◌, List, Ok, false, sym, subst, ap}
use Rattle.hol_model.specs.Terms.HolType.{bool_type}
use Rattle.hol_model.specs.Terms.Nameless.{Nameless, image}
use Rattle.hol_model.specs.Terms.Measures.{nameless_within_limits}
use Rattle.hol_model.specs.Logic.Derivable.{without, nameless_equation}
use Rattle.hol_model.specs.Logic.Logic as nameless
use Rattle.hol_equal.specs.Room.{FitsIf}
use Rattle.hol_equal.specs.Sequents.{Shows}
use Rattle.hol_equal.proofs.StepLemmas.{still_made, passed_on}
use Rattle.hol_model.specs.Derived.DerivedRules.{images}
use Rattle.hol_equal.proofs.CutLemmas.{derives-where, shows-itself}
use Rattle.hol_equal.proofs.LemmaLemmas.{derives-same, premise-fits}
use Rattle.hol_bool.proofs.ConjunctionAnswers.{conj_equation}
use Rattle.hol_bool.proofs.PreludeSteps.{where-no-room}
use Rattle.hol_bool.proofs.RoomLemmas.{fits-within}
use Rattle.hol_bool.proofs.ImplicationAnswers.{disch-both-fits, disch-conj-fits, disch-absorbed-fits, absorbed-set}
use Rattle.hol_bool.proofs.implication_rules.absorption.Goals as goal

pub returns-in_err-joined-clause-derives : goal.returns-in_err-joined-clause-derives
returns-in_err-joined-clause-derives c h q room shown fits =
    let p = image c.args.p.now in
    rw (passed_on c.from_residual-in_err-joined.result c.in_err-joined.field-0.0 c.from_residual-in_err-joined.ensures.1)
    (c.in_err-joined.ensures.conjoins.1 (p ∷ []) h p q room (c.in_ok-assumed.ensures.gives c.requires.formula.known) shown (disch-conj-fits room p q fits))

pub conclusion_of-q-requires : goal.conclusion_of-q-requires
conclusion_of-q-requires c =
    still_made c.assume_known.new.recorder c.conj_in_room.new.recorder (Ok c.in_ok-joined.joined) c.args.premise.now c.in_ok-joined.ensures.continues
    (still_made c.args.recorder.now c.assume_known.new.recorder (Ok c.in_ok-assumed.assumed) c.args.premise.now c.in_ok-assumed.ensures.continues c.requires.premise)

pub returns-in_err-first-clause-derives : goal.returns-in_err-first-clause-derives
returns-in_err-first-clause-derives c h q room shown fits =
    let p = image c.args.p.now in
    let q_is : image c.conclusion_of-q.result.now ≡ q = ap image c.conclusion_of-q.ensures.value ∙ shown.concludes in
    rw (passed_on c.from_residual-in_err-first.result c.in_err-first.field-0.0 c.from_residual-in_err-first.ensures.1)
    (c.in_err-first.ensures.derives room (subst (λ (t : Nameless). FitsIf room (nameless.conjunction p t)) (sym q_is) (disch-both-fits room p q fits)))

pub deduct_antisym_known-requires-clause-fits : goal.deduct_antisym_known-requires-clause-fits
deduct_antisym_known-requires-clause-fits c =
    let p = image c.args.p.now in
    let premise = c.args.premise.now.theorem in
    let q = image premise.conclusion in
    let conj = nameless.conjunction p q in
    let joined = c.in_ok-joined.ensures.conjoins.1 (p ∷ []) (images premise) p q false (c.in_ok-assumed.ensures.gives c.requires.formula.known) (shows-itself premise)
    (where-no-room (conj_equation p q)) in
    let q_is : image c.conclusion_of-q.result.now ≡ q = ap image c.conclusion_of-q.ensures.value in
    let first : Shows c.in_ok-first.first.theorem (conj ∷ []) p =
    subst (λ (t : Nameless). Shows c.in_ok-first.first.theorem (nameless.conjunction p t ∷ []) p) q_is
    (c.in_ok-first.ensures.derives false (where-no-room (nameless.conjunction p (image c.conclusion_of-q.result.now)))) in
    premise-fits c.in_ok-joined.joined.theorem c.in_ok-first.first.theorem conj p joined.concludes first

pub returns-clause-derives : goal.returns-clause-derives
returns-clause-derives c h q room shown fits =
    let p = image c.args.p.now in
    let conj = nameless.conjunction p q in
    let whole = nameless_equation bool_type conj p in
    let joined = c.in_ok-joined.ensures.conjoins.1 (p ∷ []) h p q room (c.in_ok-assumed.ensures.gives c.requires.formula.known) shown (disch-conj-fits room p q fits) in
    let q_is : image c.conclusion_of-q.result.now ≡ q = ap image c.conclusion_of-q.ensures.value ∙ shown.concludes in
    let first : Shows c.in_ok-first.first.theorem (conj ∷ []) p =
    subst (λ (t : Nameless). Shows c.in_ok-first.first.theorem (nameless.conjunction p t ∷ []) p) q_is
    (c.in_ok-first.ensures.derives room (subst (λ (t : Nameless). FitsIf room (nameless.conjunction p t)) (sym q_is) (disch-both-fits room p q fits))) in
    let left : List Nameless = without p ((p ∷ []) ++ h) ++ without conj (conj ∷ []) in
    derives-where (nameless_within_limits whole) room c.deduct_antisym_known.result (without p h) whole (fits-within room whole (disch-absorbed-fits room p q fits))
    (derives-same (nameless_within_limits whole) c.deduct_antisym_known.result left (without p h) whole (absorbed-set h p conj)
    (c.deduct_antisym_known.ensures.derives ((p ∷ []) ++ h) (conj ∷ []) conj p joined first))
