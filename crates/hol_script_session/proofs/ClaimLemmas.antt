-- Claims of stored theorems, and their log.
use Rattle.std.proofs.Common.{◌≡◌, ℕ, ◌≤◌, ◌<◌, ◌+◌, take, get_or, List, [], ◌∷◌, ◌++◌, map, length, refl, sym, ap, subst, ◌∙◌, inl, inr, Option}
use Rattle.std.proofs.Common.{None, Some, Ok, Err, Result, append-nil, append_assoc, string_bytes, Vec, Global}
use Rattle.std.proofs.lemmas.List.{take_more, map-append}
use Rattle.std.specs.Prelude.{IfOk, String}
use Rattle.hol_model.specs.Logic.Derivable.{IsMember}
use Rattle.hol_model.specs.declared.fault.Fault.{Fault}
use Rattle.hol_model.specs.declared.limits.TheConstants.{TEXT_BYTES_LIMIT}
use Rattle.hol_model.proofs.Terms.Membership.{of_append}
use Rattle.hol_journal.specs.Journal.{Journal, IsJournal, Recorded}
use Rattle.hol_journal_log.specs.LogWriting.{Claimed}
use Rattle.hol_journal_log.specs.declared.claim.Claim.{Claim}
use Rattle.hol_journal_log.specs.Claims.{claim_of, claims_of}
use Rattle.hol_journal_log.specs.LogAccepted.{log_claim}
use Rattle.hol_journal_log.specs.Pruning.{AreMade}
use Rattle.hol_journal_log.specs.LogOf.{IsPrunedText, IsLogOf, IsPastLimit}
use Rattle.hol_theorem_store.specs.Stored.{Stored, IsStoreOf}
use Rattle.hol_script_session.specs.StoredClaims.{IsAcceptedLog, IsLongLog, stored_claim, stored_claims}

member_of_stored_claim : (stored : List ℕ → Option Recorded) (name : List ℕ) (found : Option Recorded) (claim : Claimed) → stored name ≡ found → IsMember claim (stored_claim name found)
    → stored claim.name ≡ Some claim.made
member_of_stored_claim stored name None claim is member = absurd member
member_of_stored_claim stored name (Some made) claim is (inl same) =
    ap (λ (c : Claimed). stored c.name) same ∙ is ∙ ap (λ (c : Claimed). Some c.made) (sym same)
member_of_stored_claim stored name (Some made) claim is (inr none) = absurd none

-- each claim is for the theorem that is stored under its name
member_of_stored_claims : (stored : List ℕ → Option Recorded) (names : List (List ℕ)) (claim : Claimed) → IsMember claim (stored_claims stored names) → stored claim.name ≡ Some claim.made
member_of_stored_claims stored [] claim member = absurd member
member_of_stored_claims stored (name ∷ names) claim member =
    elim (of_append claim (stored_claim name (stored name)) (stored_claims stored names) member) [
      | inl here ↦ member_of_stored_claim stored name (stored name) claim refl here
      | inr further ↦ member_of_stored_claims stored names claim further
    ]

-- one name more
snoc_claims : (stored : List ℕ → Option Recorded) (names : List (List ℕ)) (name : List ℕ) → stored_claims stored (names ++ name ∷ []) ≡ stored_claims stored names ++ stored_claim name (stored name)
snoc_claims stored [] name = append-nil (stored_claim name (stored name))
snoc_claims stored (first ∷ names) name =
    ap (λ l. stored_claim first (stored first) ++ l) (snoc_claims stored names name)
    ∙ sym (append_assoc (stored_claim first (stored first)) (stored_claims stored names) (stored_claim name (stored name)))

pub further_claims : (stored : List ℕ → Option Recorded) (names : List (String Global)) (at : ℕ) (item : String Global) (name : List ℕ)
    (found : Option Recorded) (before after : List Claimed) → at < length names → item ≡ get_or names at item
    → name ≡ string_bytes item → stored name ≡ found → before ≡ stored_claims stored (map string_bytes (take at names)) → after ≡ before ++ stored_claim name found
    → after ≡ stored_claims stored (map string_bytes (take (at + 1) names))
further_claims stored names at item name found before after within is named known so_far added =
    let here : before ++ stored_claim name found ≡ stored_claims stored (map string_bytes (take at names)) ++ stored_claim (string_bytes item) (stored (string_bytes item)) =
    ap (λ l. l ++ stored_claim name found) so_far ∙ ap (λ f. stored_claims stored (map string_bytes (take at names)) ++ stored_claim name f) (sym known)
    ∙ ap (λ (n : List ℕ). stored_claims stored (map string_bytes (take at names)) ++ stored_claim n (stored n)) named in
    let longer : map string_bytes (take at names) ++ string_bytes item ∷ [] ≡ map string_bytes (take (at + 1) names) =
    sym (map-append string_bytes (take at names) (item ∷ [])) ∙ ap (λ (x : String Global). map string_bytes (take at names ++ x ∷ [])) is
    ∙ ap (map string_bytes) (sym (take_more names at item within)) in
    added ∙ here ∙ sym (snoc_claims stored (map string_bytes (take at names)) (string_bytes item)) ∙ ap (stored_claims stored) longer

pub pushed_claim : (claims pushed : List Claim) (claim : Claim) → pushed ≡ claims ++ claim ∷ [] → claims_of pushed ≡ claims_of claims ++ claim_of claim ∷ []
pushed_claim claims pushed claim is = ap claims_of is ∙ map-append claim_of claims (claim ∷ [])

pub stored_claims-made : (journal : Journal) (stored : Stored) (names : List (List ℕ)) → IsStoreOf journal stored → AreMade journal (stored_claims stored.theorems names)
stored_claims-made journal stored names made claim member = made.theorems claim.name claim.made (member_of_stored_claims stored.theorems names claim member)

pub log_answers : (result : Result (Vec ℕ Global) Fault) (journal : Journal) (given claimed : List Claimed) → IsJournal journal → given ≡ claimed → AreMade journal claimed
    → IfOk result (λ (text : Vec ℕ Global). IsPrunedText journal given text.items)
    → IfOk result (λ (text : Vec ℕ Global). IsLogOf journal.theory text.items given)
    → IfOk result (λ (text : Vec ℕ Global). length text.items ≤ TEXT_BYTES_LIMIT)
    → IfOk result (λ (text : Vec ℕ Global). IsAcceptedLog journal (map log_claim claimed) text.items)
log_answers (Ok text) journal given claimed is_journal same made pruned accepted within = record {
  is_log = record { is_journal = is_journal; claimed = claimed; made = made; are_claims = refl; pruned = subst (λ (cs : List Claimed). IsPrunedText journal cs text.items) same pruned };
  within_limit = within;
  state = accepted.state;
  accepted = accepted.accepted;
  claimed = accepted.claimed ∙ ap (map log_claim) same;
  entries = accepted.entries;
}
log_answers (Err fault) journal given claimed is_journal same made pruned accepted within = tt

pub long_log : (journal : Journal) (given claimed : List Claimed) → IsJournal journal → given ≡ claimed → AreMade journal claimed
    → IsPastLimit journal given → IsLongLog journal (map log_claim claimed)
long_log journal given claimed is_journal same made past = record {
  log = past.text;
  is_log = record { is_journal = is_journal; claimed = claimed; made = made; are_claims = refl; pruned = subst (λ (cs : List Claimed). IsPrunedText journal cs past.text) same past.pruned };
  longer = past.longer;
}
