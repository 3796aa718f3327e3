-- What TAUT answers, from what its calls answer.
use Rattle.std.proofs.Common.{◌≡◌, ◌⊎◌, List, [], Bool, true, false, refl, sym, ◌∙◌, subst, inl, inr, None, Some, Result, Ok, Err, IfOk}
use Rattle.hol_model.specs.declared.fault.Fault.{Fault}
use Rattle.hol_model.specs.declared.fault.Fault.TheVariants.{Memory}
use Rattle.hol_model.specs.Terms.HolType.{bool_type}
use Rattle.hol_model.specs.Terms.NamedTerm.{NamedTerm, equation}
use Rattle.hol_model.specs.Logic.NamedLogic.{false_term}
use Rattle.hol_model.specs.Terms.Nameless.{Nameless, image}
use Rattle.hol_model.specs.Logic.Logic as nameless
use Rattle.hol_model.specs.Terms.Measures.{nameless_within_limits}
use Rattle.hol_model.specs.Logic.Derivable.{nameless_equation}
use Rattle.hol_model.specs.Logic.Theory.{Theory, IsKnown, IsLegal}
use Rattle.hol_model.specs.Kernel.Theorem.{Theorem}
use Rattle.hol_model.specs.Derived.DerivedRules.{Stated, stated}
use Rattle.hol_model.proofs.Logic.Known.{equation-known}
use Rattle.hol_model.proofs.Terms.Images.{image-equation}
use Rattle.hol_journal.specs.Journal.{Journal, Recorded, theorem_in}
use Rattle.hol_prelude_derivations.proofs.DerivationLemmas.{unchanged}
use Rattle.hol_bool.proofs.RoomLemmas.{fits-within}
use Rattle.hol_equal.specs.Formulas.{IsFormula, IsPassed, IsRefused}
use Rattle.hol_journal.specs.Growth.{Continues}
use Rattle.hol_equal.specs.Sequents.{Shows, IsPast, DerivesIf}
use Rattle.hol_taut_laws.specs.HasLaws.{HasLaws}
use Rattle.hol_taut_laws.specs.declared.stored.Laws.{Laws}
use Rattle.hol_model.specs.Rewrites.SmallTerms.{is_small}
use Rattle.hol_taut.specs.Answers.{AnswersSmall}
use Rattle.hol_taut.specs.Proved.{Proves}
use Rattle.hol_model.specs.Propositional.Tautologies.{falsity_of, tautology_outcome}
use Rattle.hol_taut.specs.Ways.{IsSmallIf}
use Rattle.hol_taut.proofs.LeafLemmas.{false-known}
use Rattle.hol_taut.proofs.SmallLemmas.{small-room}
use Rattle.hol_taut.proofs.WayLemmas.{facts-fit}

-- nothing is recorded
pub continues-unchanged : (journal : Journal) (fault : Fault) → Continues journal journal (Err fault)
continues-unchanged journal fault = record { grown = (unchanged journal fault).grown; theory = refl; held = tt }

-- there is no memory
pub memory-answers : (fault : Fault) (term : Nameless) (outcome : Result Stated Fault) → fault ≡ Memory → AnswersSmall (Err fault) term outcome
memory-answers fault term (Ok sequent) memory = inl memory
memory-answers fault term (Err refusal) memory = inl memory

refusal-answers : (fault : Fault) (term : Nameless) (outcome : Result Stated Fault) → outcome ≡ Err fault → AnswersSmall (Err fault) term outcome
refusal-answers fault term outcome is = subst (λ (o : Result Stated Fault). AnswersSmall (Err fault) term o) (sym is) (inr refl)

-- the term is refused
pub refused-answers : (theory : Theory) (term : NamedTerm) (fault : Fault) → IsRefused theory term fault → AnswersSmall (Err fault) (image term) (tautology_outcome theory term)
refused-answers theory term fault (inl memory) = memory-answers fault (image term) (tautology_outcome theory term) memory
refused-answers theory term fault (inr refuses) = refusal-answers fault (image term) (tautology_outcome theory term) (refuses _)

-- the formula is no tautology
pub falsity-answers : (theory : Theory) (term : NamedTerm) (fault : Fault) → IsPassed theory term → (fault ≡ Memory) ⊎ (falsity_of term ≡ Some fault)
    → AnswersSmall (Err fault) (image term) (tautology_outcome theory term)
falsity-answers theory term fault passed (inl memory) = memory-answers fault (image term) (tautology_outcome theory term) memory
falsity-answers theory term fault passed (inr refuses) = refusal-answers fault (image term) (tautology_outcome theory term) (rw (passed.is_formula, passed.is_known, refuses) refl)

-- the sequent is stated
tautology-stated : (theory : Theory) (term : NamedTerm) → IsPassed theory term → falsity_of term ≡ None → tautology_outcome theory term ≡ stated [] term
tautology-stated theory term passed none = rw (passed.is_formula, passed.is_known, none) refl

-- what has to fit does not
pub past-answers : (theory : Theory) (term : NamedTerm) (fault : Fault) → IsPassed theory term → falsity_of term ≡ None → ((room : Bool) → IsSmallIf room (image term) → IsPast fault room)
    → AnswersSmall (Err fault) (image term) (tautology_outcome theory term)
past-answers theory term fault passed none past =
    subst (λ (o : Result Stated Fault). AnswersSmall (Err fault) (image term) o) (sym (tautology-stated theory term passed none)) (past (is_small (image term)) (small-room (image term)))

-- the theorem is of the term, whether there is room or not
pub whatever-room : (theorem : Theorem) (term : Nameless) → ((room : Bool) → IsSmallIf room term → Proves theorem [] term) → Proves theorem [] term
whatever-room theorem term proves = proves false (λ is. cc)

-- the theorem with the formula's own names
pub named-answers : (theory : Theory) (term : NamedTerm) (theorem : Theorem) (result : Result Recorded Fault) → IsPassed theory term → falsity_of term ≡ None
    → ((room : Bool) → IsSmallIf room (image term) → Proves theorem [] (image term)) → IfOk result (λ made. made.theorem.conclusion ≡ term)
    → ((h : List Nameless) → Shows theorem h (image term) → DerivesIf (nameless_within_limits (nameless_equation bool_type (image term) (image term))) result h (image term))
    → AnswersSmall (theorem_in result) (image term) (tautology_outcome theory term)
named-answers theory term theorem result passed none proves names derives =
    subst (λ (o : Result Stated Fault). AnswersSmall (theorem_in result) (image term) o) (sym (tautology-stated theory term passed none)) (go result names (derives [] shows))
  where
    proved : Proves theorem [] (image term)
    proved = whatever-room theorem (image term) proves

    shows : Shows theorem [] (image term)
    shows = record { same_set = record { to = λ x m. absurd m; back = λ x m. proved.within x m }; concludes = proved.concludes }

    large : (test : Bool) → is_small (image term) ≡ test → nameless_within_limits (nameless_equation bool_type (image term) (image term)) ≡ false → test ≡ false
    large true small past =
        let fits = fits-within true (nameless_equation bool_type (image term) (image term))
        (facts-fit true true true (image term) (image term) (λ is. small-room (image term) small) (λ is. small-room (image term) small)) refl in
        sym fits ∙ past
    large false small past = refl

    go : (r : Result Recorded Fault) → IfOk r (λ made. made.theorem.conclusion ≡ term)
        → DerivesIf (nameless_within_limits (nameless_equation bool_type (image term) (image term))) r [] (image term)
        → AnswersSmall (theorem_in r) (image term) (stated [] term)
    go (Ok made) is shown = record { hypotheses = record { to = shown.same_set.back; back = shown.same_set.to }; conclusion = is }
    go (Err fault) is (inl memory) = inl memory
    go (Err fault) is (inr past) = inr (past.0, large (is_small (image term)) refl past.1)

-- the denial is a formula of the theory
pub denial-formula : (journal : Journal) (laws : Laws) (term denial : NamedTerm) → HasLaws journal laws → IsLegal journal.theory → IsFormula journal.theory term
    → denial ≡ equation term false_term → IsFormula journal.theory denial
denial-formula journal laws term denial has legal formula is = subst (λ (t : NamedTerm). IsFormula journal.theory t) (sym is) (record {
  typed = rw formula.typed refl;
  known = subst (λ (t : Nameless). IsKnown journal.theory t bool_type) (sym (image-equation term false_term bool_type formula.typed))
      (equation-known journal.theory legal bool_type (image term) nameless.false_term formula.known (false-known journal laws has legal));
})
