-- Lemmas on the claims that a log lists.
use Rattle.std.proofs.Common.{◌≡◌, ◌<◌, ℕ, length, sym, ap, ◌∙◌, subst}
use Rattle.std.specs.List.{slice_index_or}
use Rattle.std.proofs.lemmas.List.{get_or-map}
use Rattle.std.proofs.lemmas.List.Elements.{All-get_or}
use Rattle.hol_model.specs.Logs.LogState.{no_sequent}
use Rattle.hol_model.specs.Goals.Goals.{Sequent}
use Rattle.hol_check_terms.specs.Terms.{TermTable, name_at}
use Rattle.hol_check_rules.specs.State.{sequent_in, claim_in, IsClaim, IsContents}
use Rattle.hol_check.specs.PrintedClaims.{claims_in, no_claim}
use Rattle.hol_check_rules.specs.declared.state.Theorem.{Theorem}
use Rattle.hol_check_rules.specs.declared.state.ListedClaim.{ListedClaim}
use Rattle.hol_check_rules.specs.declared.state.Contents.{Contents}

-- the claim at a place, by its name and its theorem
pub claim_at : (table : TermTable) (contents : Contents) (place : ℕ) (claim : ListedClaim) (theorem : Theorem) → IsContents table contents → place < length contents.claims.items
    → claim ≡ slice_index_or contents.claims.items place claim → theorem ≡ slice_index_or contents.theorems.items claim.theorem theorem
    → slice_index_or (claims_in table contents) place no_claim ≡ record { name = name_at table.names claim.name; sequent = sequent_in table.terms theorem }
claim_at table contents place claim theorem kept placed here there =
    let known : IsClaim table contents.theorems.items (slice_index_or contents.claims.items place claim) =
    All-get_or (IsClaim table contents.theorems.items) contents.claims.items place claim placed kept.claims in
    let proved : claim.theorem < length contents.theorems.items = subst (λ (c : ListedClaim). c.theorem < length contents.theorems.items) (sym here) known.theorem in
    get_or-map (claim_in table contents.theorems.items) contents.claims.items place claim no_claim placed ∙ ap (claim_in table contents.theorems.items) (sym here)
    ∙ ap (λ (sequent : Sequent). record { name = name_at table.names claim.name; sequent = sequent })
    (get_or-map (sequent_in table.terms) contents.theorems.items claim.theorem theorem no_sequent proved ∙ ap (sequent_in table.terms) (sym there))
