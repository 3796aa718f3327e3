-- Steps by the theorems of the prelude: what has to fit, and instances at formulas.
use Rattle.std.proofs.Common.{◌≡◌, ℕ, List, [], ◌∷◌, map, Bool, true, false, ◌&&◌, refl, sym, ◌∙◌, subst, Some, None, Result, arith}
use Rattle.std.specs.Prelude.{slice_get}
use Rattle.std.specs.List.{list_all}
use Rattle.hol_model.specs.declared.fault.Fault.{Fault}
use Rattle.hol_model.specs.Terms.HolType.{bool_type}
use Rattle.hol_model.specs.Terms.NamedTerm.{NamedTerm}
use Rattle.hol_model.specs.Terms.Nameless.{Nameless, image}
use Rattle.hol_model.specs.Terms.Measures.{nameless_within_limits}
use Rattle.hol_model.specs.Logic.Theory.{Theory}
use Rattle.hol_model.specs.Logic.Derivable.{nameless_equation}
use Rattle.hol_model.specs.Kernel.Theorem.{Theorem}
use Rattle.hol_model.specs.Logic.KnownTerm.{knows_types, knows_constants, has_instances}
use Rattle.hol_model.specs.Kernel.Instantiation.{instantiate_all, replacements_refusal}
use Rattle.hol_model.proofs.Terms.NamedTests.{is_known-Decides}
use Rattle.hol_journal.specs.Journal.{Journal, Recorded}
use Rattle.hol_prelude.specs.Prelude.{prelude_theorems, shown}
use Rattle.hol_journal.specs.Growth.{Continues}
use Rattle.hol_equal.specs.Sequents.{Shows, instance_of}
use Rattle.hol_prelude.specs.HasLogic.{HasLogic}
use Rattle.hol_equal.specs.Formulas.{IsFormula}
use Rattle.hol_equal.specs.Room.{FitsIf}
use Rattle.hol_prelude.specs.declared.stored.Bool.{Bool as Stored}
use Rattle.hol_bool.specs.PreludeInstances.{LeadsTo, Concludes, Says, at_p, at_p_q, at_p_q_r}
use Rattle.hol_equal.proofs.Sizes.{sized-equation, sized-within}
use Rattle.hol_equal.proofs.StepLemmas.{still_made, now_made}
use Rattle.hol_bool.proofs.RoomLemmas.{fits-within}
use Rattle.hol_prelude.proofs.StoredLemmas.{logic-stays}

-- the prelude stays
pub still_logical : (old new : Journal) (result : Result Recorded Fault) (logic : Stored) → Continues old new result → HasLogic old logic → HasLogic new logic
still_logical old new result logic continues has = logic-stays old new logic continues.grown has

-- so do formulas of the theory
pub still_formula : (old new : Journal) (result : Result Recorded Fault) (term : NamedTerm) → Continues old new result → IsFormula old.theory term → IsFormula new.theory term
still_formula old new result term continues formula = subst (λ (t : Theory). IsFormula t term) (sym continues.theory) formula

-- and theorems of the recorder
pub ruleset staying = (still_made, now_made, still_logical, still_formula)

-- the theorem of the number says what leads from the premise to the conclusion
pub leads-shows : (theory : Theory) (number : ℕ) (terms : List (NamedTerm × NamedTerm)) (room : Bool) (premise conclusion : Nameless)
    (leads : LeadsTo theory number terms room premise conclusion) (theorem : Theorem)
    → slice_get prelude_theorems number ≡ Some theorem → Shows theorem (image leads.hypothesis ∷ []) (image leads.stated)
leads-shows theory number terms room premise conclusion leads theorem is =
    let there : Some (shown (leads.hypothesis ∷ []) leads.stated) ≡ Some theorem = sym leads.theorem_is ∙ is in
    let same : shown (leads.hypothesis ∷ []) leads.stated ≡ theorem = cc in
    subst (λ (t : Theorem). Shows t (image leads.hypothesis ∷ []) (image leads.stated)) same (record { same_set = record { to = λ x m. m; back = λ x m. m }; concludes = refl })

-- what the theorem of the number concludes

pub concludes-shows : (theory : Theory) (number : ℕ) (terms : List (NamedTerm × NamedTerm)) (conclusion : Nameless) (concludes : Concludes theory number terms conclusion) (theorem : Theorem)
    → slice_get prelude_theorems number ≡ Some theorem → Shows theorem (map image concludes.hypotheses) (image concludes.stated)
concludes-shows theory number terms conclusion concludes theorem is =
    let there : Some (shown concludes.hypotheses concludes.stated) ≡ Some theorem = sym concludes.theorem_is ∙ is in
    let same : shown concludes.hypotheses concludes.stated ≡ theorem = cc in
    subst (λ (t : Theorem). Shows t (map image concludes.hypotheses) (image concludes.stated)) same (record { same_set = record { to = λ x m. m; back = λ x m. m }; concludes = refl })

pub leads-concludes : (theory : Theory) (number : ℕ) (terms : List (NamedTerm × NamedTerm)) (room : Bool) (premise conclusion : Nameless)
    → LeadsTo theory number terms room premise conclusion → Concludes theory number terms conclusion
leads-concludes theory number terms room premise conclusion leads = record {
  hypotheses = leads.hypothesis ∷ [];
  stated = leads.stated;
  theorem_is = leads.theorem_is;
  may_replace = leads.may_replace;
  conclusion_is = leads.conclusion_is;
}

pub says-concludes : (theory : Theory) (number : ℕ) (terms : List (NamedTerm × NamedTerm)) (room : Bool) (conclusion : Nameless)
    → Says theory number terms room conclusion → Concludes theory number terms conclusion
says-concludes theory number terms room conclusion says = record {
  hypotheses = [];
  stated = says.stated;
  theorem_is = says.theorem_is;
  may_replace = says.may_replace;
  conclusion_is = says.conclusion_is;
}

-- where there is no room, nothing has to fit
pub where-no-room : (term : Nameless) → FitsIf false term
where-no-room term is = cc

-- what has to fit on the way does

pub equation-fits : (room : Bool) (p q : Nameless) → FitsIf room p → FitsIf room q → room ≡ true → nameless_within_limits (nameless_equation bool_type p q) ≡ true
equation-fits room p q one two is =
    sized-within 1902 1800003 (nameless_equation bool_type p q) (sized-equation 1900 900000 900000 bool_type p q (omega arith) (omega arith) (one is) (two is)) (omega arith) (omega arith)

pub way-fits : (theory : Theory) (number : ℕ) (terms : List (NamedTerm × NamedTerm)) (room : Bool) (premise conclusion : Nameless)
    (leads : LeadsTo theory number terms room premise conclusion) → room ≡ true
    → list_all nameless_within_limits
    (instantiate_all [] (image leads.stated) ∷ instantiate_all [] (image leads.hypothesis) ∷ instance_of [] terms
    (image leads.stated) ∷ instance_of [] terms (image leads.hypothesis)
    ∷ nameless_equation bool_type (instance_of [] terms (image leads.hypothesis)) (instance_of [] terms (image leads.stated)) ∷ []) ≡ true
way-fits theory number terms room premise conclusion leads is =
    let typed_stated = nameless_within_limits (instantiate_all [] (image leads.stated)) in
    let typed_hypothesis = nameless_within_limits (instantiate_all [] (image leads.hypothesis)) in
    subst (λ (c : Nameless). (typed_stated
    && (typed_hypothesis && (nameless_within_limits c
    && (nameless_within_limits (instance_of [] terms (image leads.hypothesis))
    && (nameless_within_limits (nameless_equation bool_type (instance_of [] terms (image leads.hypothesis)) c) && true))))) ≡ true)
    leads.conclusion_is
    (subst (λ (p : Nameless). (typed_stated
    && (typed_hypothesis && (nameless_within_limits conclusion
    && (nameless_within_limits p && (nameless_within_limits (nameless_equation bool_type p conclusion) && true))))) ≡ true) leads.premise_is
    (joined typed_stated typed_hypothesis (nameless_within_limits conclusion) (nameless_within_limits premise) (nameless_within_limits (nameless_equation bool_type premise conclusion)) leads.is_small
    (fits-within room conclusion leads.conclusion_fits is) (fits-within room premise leads.premise_fits is) (equation-fits room premise conclusion leads.premise_fits leads.conclusion_fits is)))
  where
    joined : (a b c d e : Bool) → (a && (b && true)) ≡ true → c ≡ true → d ≡ true → e ≡ true → (a && (b && (c && (d && (e && true))))) ≡ true
    joined true true c d e first three four five = rw (three, four, five) refl
    joined true false c d e first three four five = cc
    joined false b c d e first three four five = cc

-- so does what is instantiated, with its hypothesis
pub instance-fits : (theory : Theory) (number : ℕ) (terms : List (NamedTerm × NamedTerm)) (room : Bool) (premise conclusion : Nameless)
    (leads : LeadsTo theory number terms room premise conclusion) → room ≡ true
    → list_all nameless_within_limits (instantiate_all [] (image leads.stated) ∷ instantiate_all [] (image leads.hypothesis)
    ∷ instance_of [] terms (image leads.stated) ∷ instance_of [] terms (image leads.hypothesis) ∷ []) ≡ true
instance-fits theory number terms room premise conclusion leads is =
    first-four (nameless_within_limits (instantiate_all [] (image leads.stated))) (nameless_within_limits (instantiate_all [] (image leads.hypothesis)))
    (nameless_within_limits (instance_of [] terms (image leads.stated))) (nameless_within_limits (instance_of [] terms (image leads.hypothesis)))
    (nameless_within_limits (nameless_equation bool_type (instance_of [] terms (image leads.hypothesis)) (instance_of [] terms (image leads.stated))))
    (way-fits theory number terms room premise conclusion leads is)
  where
    first-four : (a b c d e : Bool) → (a && (b && (c && (d && (e && true))))) ≡ true → (a && (b && (c && (d && true)))) ≡ true
    first-four true true true true e all = refl
    first-four true true true false e all = cc
    first-four true true false d e all = cc
    first-four true false c d e all = cc
    first-four false b c d e all = cc

-- the theorem of the number says what is instantiated, which fits

pub says-shows : (theory : Theory) (number : ℕ) (terms : List (NamedTerm × NamedTerm)) (room : Bool) (conclusion : Nameless) (says : Says theory number terms room conclusion) (theorem : Theorem)
    → slice_get prelude_theorems number ≡ Some theorem → Shows theorem [] (image says.stated)
says-shows theory number terms room conclusion says theorem is =
    let there : Some (shown [] says.stated) ≡ Some theorem = sym says.theorem_is ∙ is in
    let same : shown [] says.stated ≡ theorem = cc in
    subst (λ (t : Theorem). Shows t [] (image says.stated)) same (record { same_set = record { to = λ x m. m; back = λ x m. m }; concludes = refl })

pub says-fits : (theory : Theory) (number : ℕ) (terms : List (NamedTerm × NamedTerm)) (room : Bool) (conclusion : Nameless) (says : Says theory number terms room conclusion) → room ≡ true
    → list_all nameless_within_limits (instantiate_all [] (image says.stated) ∷ instance_of [] terms (image says.stated) ∷ []) ≡ true
says-fits theory number terms room conclusion says is =
    subst (λ (c : Nameless). (nameless_within_limits (instantiate_all [] (image says.stated)) && (nameless_within_limits c && true)) ≡ true) says.conclusion_is
    (joined (nameless_within_limits (instantiate_all [] (image says.stated))) (nameless_within_limits conclusion) says.is_small (fits-within room conclusion says.conclusion_fits is))
  where
    joined : (a b : Bool) → a ≡ true → b ≡ true → (a && (b && true)) ≡ true
    joined a b one two = rw (one, two) refl

-- formulas that the theory knows may stand for p, q and r

passes : (types constants instances : Bool) → (types && constants && instances) ≡ true → (types ≡ true) × (constants ≡ true) × (instances ≡ true)
passes true true true known = (refl, refl, refl)
passes true true false known = cc
passes true false instances known = cc
passes false constants instances known = cc

tests : (theory : Theory) (a : NamedTerm) → IsFormula theory a → (knows_types theory a ≡ true) × (knows_constants theory a ≡ true) × (has_instances theory a ≡ true)
tests theory a formula = passes (knows_types theory a) (knows_constants theory a) (has_instances theory a) ((is_known-Decides theory a bool_type formula.typed).1 formula.known)

pub p-passes : (theory : Theory) (a : NamedTerm) → IsFormula theory a → replacements_refusal theory (at_p a) ≡ None
p-passes theory a one = let s = tests theory a one in rw (one.typed, s.0, s.1, s.2) refl

pub p_q-passes : (theory : Theory) (a b : NamedTerm) → IsFormula theory a → IsFormula theory b → replacements_refusal theory (at_p_q a b) ≡ None
p_q-passes theory a b one two =
    let s = tests theory a one in
    let t = tests theory b two in
    rw (one.typed, two.typed, s.0, s.1, s.2, t.0, t.1, t.2) refl

pub p_q_r-passes : (theory : Theory) (a b c : NamedTerm) → IsFormula theory a → IsFormula theory b → IsFormula theory c → replacements_refusal theory (at_p_q_r a b c) ≡ None
p_q_r-passes theory a b c one two three =
    let s = tests theory a one in
    let t = tests theory b two in
    let u = tests theory c three in
    rw (one.typed, two.typed, three.typed, s.0, s.1, s.2, t.0, t.1, t.2, u.0, u.1, u.2) refl
