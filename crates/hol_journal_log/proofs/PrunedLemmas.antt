-- The pruned log.
use Rattle.std.proofs.Common.{suc, [], ◌∷◌, ◌++◌, true, inl, inr, refl, ◌≡◌, ℕ, ◌<◌, List, length, sym, ◌∙◌, ap, subst, arith}
use Rattle.std.specs.Prelude.{slice_get}
use Rattle.hol_model.specs.Logic.Derivable.{IsMember}
use Rattle.hol_model.proofs.Terms.Membership.{of_map, of_append}
use Rattle.hol_model.specs.Logs.LogLine.{LogLine}
use Rattle.hol_journal.specs.Steps.{derived, sequent_of_theorem}
use Rattle.hol_journal.specs.Journal.{Journal, IsJournal}
use Rattle.hol_journal_log.specs.LogWriting.{Claimed}
use Rattle.hol_journal_log.specs.Pruning.{IsPruned, AreMade, IsFitting, AreFitting, HaveIdentifiers, HasNames, entries_of_claims}
use Rattle.hol_journal_log.specs.LogAccepted.{IsFormulaWithin, IsAccepted, LogsAreAccepted}
use Rattle.hol_journal_log.specs.Claims.{claim_of, claims_of}
use Rattle.hol_journal_log.specs.declared.claim.Claim.{Claim}
use Rattle.hol_kernel.specs.KnownFormula.{IsKnownFormula}
use Rattle.hol_model.specs.Kernel.Theorem.{Theorem, IsTheorem}
use Rattle.hol_model.specs.Logic.Theory.{Theory}
use Rattle.hol_model.specs.Terms.NamedTerm.{NamedTerm, is_within_limits}
use Rattle.hol_model.proofs.Tests.{first_of_both, second_of_both}
use Rattle.std.specs.List.{All, list_all}
use Rattle.hol_journal_log.proofs.MarkingLemmas.{within}

pub cited_within : (journal : Journal) (claims : List Claimed) (cited : List ℕ) → AreMade journal claims → cited ≡ entries_of_claims claims
    → (number : ℕ) → IsMember number cited → number < length journal.entries
cited_within journal claims cited made is number member =
    let claim = of_map (λ (c : Claimed). c.made.entry) number claims (subst (λ l. IsMember number l) is member) in
    let by = made claim.0 claim.1 in
    within journal.entries number (derived by.step (sequent_of_theorem claim.0.made.theorem)) (ap (slice_get journal.entries) claim.2 ∙ by.there)

-- fitting theorems

pub formulas_within : (theorem : Theorem) (theory : Theory) → IsTheorem theorem → IsKnownFormula theory theorem.conclusion → is_within_limits theorem.conclusion ≡ true
    → All (IsKnownFormula theory) theorem.hypotheses → list_all is_within_limits theorem.hypotheses ≡ true → IsFitting theorem
formulas_within theorem theory is conclusion conclusion_fits known fit = record { is_theorem = is; formulas = λ term member. go term member }
  where
    each : (terms : List NamedTerm) → All (IsKnownFormula theory) terms → list_all is_within_limits terms ≡ true → (term : NamedTerm) → IsMember term terms → IsFormulaWithin term
    each [] all fits term member = absurd member
    each (first ∷ terms) all fits term (inl same) =
        let here = all 0 first (omega arith) in
        subst IsFormulaWithin (sym same) (record { typed = here.typed; within_limits = first_of_both (is_within_limits first) (list_all is_within_limits terms) fits })
    each (first ∷ terms) all fits term (inr member) =
        each terms (λ k d inside. all (suc k) d (omega arith)) (second_of_both (is_within_limits first) (list_all is_within_limits terms) fits) term member

    go : (term : NamedTerm) → IsMember term (theorem.conclusion ∷ theorem.hypotheses) → IsFormulaWithin term
    go term (inl same) = subst IsFormulaWithin (sym same) (record { typed = conclusion.typed; within_limits = conclusion_fits })
    go term (inr member) = each theorem.hypotheses known fit term member

pub fitting_turn : (front longer : List Claim) (claim : Claim) → longer ≡ front ++ claim ∷ [] → AreFitting (claims_of front) → IsFitting claim.theorem.now.theorem → AreFitting (claims_of longer)
fitting_turn front longer claim is before one claimed member =
    elim (of_append claimed (claims_of front) (claim_of claim ∷ []) (subst (λ l. IsMember claimed l) (ap claims_of is ∙ push front) member)) [
      | inl earlier ↦ before claimed earlier
      | inr (inl same) ↦ subst (λ (c : Claimed). IsFitting c.made.theorem) (sym same) one
      | inr (inr none) ↦ absurd none
    ]
  where
    push : (claims : List Claim) → claims_of (claims ++ claim ∷ []) ≡ claims_of claims ++ claim_of claim ∷ []
    push [] = refl
    push (first ∷ claims) = ap (λ l. claim_of first ∷ l) (push claims)

pub lines_accepted : (lines : List LogLine) (journal : Journal) (claims : List Claimed) → LogsAreAccepted → IsJournal journal → AreMade journal claims → AreFitting claims
    → IsPruned journal claims lines → HasNames lines → HaveIdentifiers claims → IsAccepted journal.theory lines claims
lines_accepted lines journal claims accepts is made fitting pruned named identifiers =
    let accepted = accepts journal pruned.marks claims is pruned.needed (subst HasNames pruned.is_log named)
    (λ claim member. record { is_name = identifiers claim member; made = made claim member; theorem = (fitting claim member).is_theorem; formulas = (fitting claim member).formulas }) in
    subst (λ l. IsAccepted journal.theory l claims) (sym pruned.is_log) accepted
