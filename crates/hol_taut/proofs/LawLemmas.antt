-- Steps by laws: what has to fit, and instances at formulas.
use Rattle.std.proofs.Common.{◌≡◌, List, [], ◌∷◌, Bool, true, false, ◌&&◌, refl, sym, ◌∙◌, subst, Result}
use Rattle.std.specs.List.{list_all}
use Rattle.hol_model.specs.declared.fault.Fault.{Fault}
use Rattle.hol_model.specs.Terms.HolType.{bool_type}
use Rattle.hol_model.specs.Terms.NamedTerm.{NamedTerm}
use Rattle.hol_model.specs.Terms.Nameless.{Nameless, image}
use Rattle.hol_model.specs.Terms.Measures.{nameless_within_limits}
use Rattle.hol_model.specs.Logic.Theory.{Theory}
use Rattle.hol_model.specs.Logic.Derivable.{nameless_equation}
use Rattle.hol_model.specs.Kernel.Theorem.{Theorem}
use Rattle.hol_model.specs.Kernel.Instantiation.{instantiate_all}
use Rattle.hol_journal.specs.Journal.{Journal, Recorded}
use Rattle.hol_prelude.specs.Prelude.{shown}
use Rattle.hol_equal.specs.Formulas.{IsFormula}
use Rattle.hol_equal.specs.Room.{FitsIf}
use Rattle.hol_equal.specs.Fits.{LemmaFits}
use Rattle.hol_journal.specs.Growth.{Continues}
use Rattle.hol_equal.specs.Sequents.{Shows, DerivesIf, instance_of}
use Rattle.hol_equal.proofs.CutLemmas.{derives-where}
use Rattle.hol_bool.specs.PreludeInstances.{at_p_q}
use Rattle.hol_bool.proofs.RoomLemmas.{fits-within}
use Rattle.hol_bool.proofs.PreludeSteps.{equation-fits, p_q-passes}
use Rattle.hol_taut_laws.specs.HasLaws.{HasLaws}
use Rattle.hol_taut_laws.specs.LawTheorems.{law_theorem}
use Rattle.hol_taut_formulas.specs.declared.law.Law.{Law}
use Rattle.hol_taut_laws.specs.declared.stored.Laws.{Laws}
use Rattle.hol_taut_laws.proofs.LawLemmas.{laws-stay}
use Rattle.hol_taut.specs.LawSteps.{LeadsTo}
use Rattle.hol_equal.proofs.StepLemmas.{still_made, now_made}
use Rattle.hol_taut_chains.proofs.ChainLemmas.{continued_twice}

-- the laws stay
pub still_lawful : (old new : Journal) (result : Result Recorded Fault) (laws : Laws) → Continues old new result → HasLaws old laws → HasLaws new laws
still_lawful old new result laws continues has = laws-stay old new laws continues.grown has

-- the law's theorem says what leads from the premise to the conclusion
pub leads-shows : (theory : Theory) (law : Law) (terms : List (NamedTerm × NamedTerm)) (room : Bool) (premise conclusion : Nameless)
    (leads : LeadsTo theory law terms room premise conclusion) (theorem : Theorem)
    → theorem ≡ law_theorem law → Shows theorem (image leads.hypothesis ∷ []) (image leads.stated)
leads-shows theory law terms room premise conclusion leads theorem is =
    subst (λ (t : Theorem). Shows t (image leads.hypothesis ∷ []) (image leads.stated)) (sym (is ∙ leads.theorem_is))
    (record { same_set = record { to = λ x m. m; back = λ x m. m }; concludes = refl })

-- what has to fit on the way does
pub way-fits : (theory : Theory) (law : Law) (terms : List (NamedTerm × NamedTerm)) (room : Bool) (premise conclusion : Nameless)
    (leads : LeadsTo theory law terms room premise conclusion) → room ≡ true
    → list_all nameless_within_limits (instantiate_all [] (image leads.stated) ∷ instantiate_all [] (image leads.hypothesis) ∷ instance_of [] terms
    (image leads.stated) ∷ instance_of [] terms (image leads.hypothesis)
    ∷ nameless_equation bool_type (instance_of [] terms (image leads.hypothesis)) (instance_of [] terms (image leads.stated)) ∷ []) ≡ true
way-fits theory law terms room premise conclusion leads is =
    let typed_stated = nameless_within_limits (instantiate_all [] (image leads.stated)) in
    let typed_hypothesis = nameless_within_limits (instantiate_all [] (image leads.hypothesis)) in
    let from = instance_of [] terms (image leads.hypothesis) in
    let to = instance_of [] terms (image leads.stated) in
    joined typed_stated typed_hypothesis (nameless_within_limits to) (nameless_within_limits from) (nameless_within_limits (nameless_equation bool_type from to)) leads.is_small
    (fits-within room to to_fits is) (fits-within room from from_fits is) (equation-fits room from to from_fits to_fits is)
  where
    from_fits : FitsIf room (instance_of [] terms (image leads.hypothesis))
    from_fits = subst (λ (t : Nameless). FitsIf room t) leads.premise_is leads.premise_fits

    to_fits : FitsIf room (instance_of [] terms (image leads.stated))
    to_fits = subst (λ (t : Nameless). FitsIf room t) leads.conclusion_is leads.conclusion_fits

    joined : (a b c d e : Bool) → (a && (b && true)) ≡ true → c ≡ true → d ≡ true → e ≡ true → (a && (b && (c && (d && (e && true))))) ≡ true
    joined true true c d e first three four five = rw (three, four, five) refl
    joined true false c d e first three four five = cc
    joined false b c d e first three four five = cc

-- a theorem of the premise fits the law's theorem
pub leads-fits : (theory : Theory) (law : Law) (terms : List (NamedTerm × NamedTerm)) (room : Bool) (premise conclusion : Nameless)
    → LeadsTo theory law terms room premise conclusion → (lemma theorem : Theorem) → lemma ≡ law_theorem law → image theorem.conclusion ≡ premise → LemmaFits [] terms lemma theorem
leads-fits theory law terms room premise conclusion leads lemma theorem there is = record {
  hypothesis = image leads.hypothesis;
  conclusion = image leads.stated;
  lemma_shows = leads-shows theory law terms room premise conclusion leads lemma there;
  premise_is = is ∙ leads.premise_is;
}

-- and the two derive the conclusion
pub leads-derives : (theory : Theory) (law : Law) (terms : List (NamedTerm × NamedTerm)) (room : Bool) (premise conclusion : Nameless)
    → LeadsTo theory law terms room premise conclusion → (lemma theorem : Theorem) (result : Result Recorded Fault) (h : List Nameless) → lemma ≡ law_theorem law → Shows theorem h premise
    → ((h : List Nameless) (p c : Nameless) → Shows lemma (p ∷ []) c → Shows theorem h (instance_of [] terms p)
    → DerivesIf (list_all nameless_within_limits (instantiate_all [] c ∷ instantiate_all [] p ∷ instance_of [] terms c ∷ instance_of [] terms p
    ∷ nameless_equation bool_type (instance_of [] terms p) (instance_of [] terms c) ∷ [])) result h (instance_of [] terms c))
    → DerivesIf room result h conclusion
leads-derives theory law terms room premise conclusion leads lemma theorem result h there shows step =
    let at = instance_of [] terms in
    let p = image leads.hypothesis in
    let c = image leads.stated in
    subst (λ (t : Nameless). DerivesIf room result h t) (sym leads.conclusion_is)
    (derives-where (list_all nameless_within_limits (instantiate_all [] c ∷ instantiate_all [] p ∷ at c ∷ at p ∷ nameless_equation bool_type (at p) (at c) ∷ [])) room result h (at c)
    (way-fits theory law terms room premise conclusion leads)
    (step h p c (leads-shows theory law terms room premise conclusion leads lemma there) (subst (λ (t : Nameless). Shows theorem h t) leads.premise_is shows)))

-- a law of two formulas
pub leads-p_q : (theory : Theory) (law : Law) (hypothesis conclusion a b : NamedTerm) (terms : List (NamedTerm × NamedTerm)) → law_theorem law ≡ shown (hypothesis ∷ []) conclusion
    → list_all nameless_within_limits (instantiate_all [] (image conclusion) ∷ instantiate_all [] (image hypothesis) ∷ []) ≡ true → IsFormula theory a → IsFormula theory b → terms ≡ at_p_q a b
    → (room : Bool) (from to : Nameless) → from ≡ instance_of [] (at_p_q a b) (image hypothesis) → to ≡ instance_of [] (at_p_q a b) (image conclusion) → FitsIf room from → FitsIf room to
    → LeadsTo theory law terms room from to
leads-p_q theory law hypothesis conclusion a b terms there small one two terms_are room from to from_is to_is from_fits to_fits =
    subst (λ (l : List (NamedTerm × NamedTerm)). LeadsTo theory law l room from to) (sym terms_are) (record {
      hypothesis = hypothesis;
      stated = conclusion;
      theorem_is = there;
      is_small = small;
      may_replace = p_q-passes theory a b one two;
      premise_is = from_is;
      conclusion_is = to_is;
      premise_fits = from_fits;
      conclusion_fits = to_fits;
    })

-- for calls of the recorder one after another
pub ruleset in_a_row = (still_made, now_made, continued_twice, still_lawful)
