-- Formulas with names, and the texts of sequents, bodies and types.
use Rattle.std.proofs.Common.{◌≡◌, ◌∙◌, ap, sym, subst, inl, inr, ℕ, ◌+◌, ◌<◌, length, arith, List, [], ◌∷◌, ◌++◌, Option, Some, None, Ok, Err, take}
use Rattle.std.specs.Prelude.{Result, IfOk, slice_get}
use Rattle.std.proofs.lemmas.List.{take_more}
use Rattle.std.proofs.lemmas.Option.{slice_get_cases}
use Rattle.hol_model.specs.declared.fault.Fault.{Fault}
use Rattle.hol_model.specs.Terms.HolType.{HolType}
use Rattle.hol_model.specs.Terms.NamedTerm.{NamedTerm}
use Rattle.hol_model.specs.Terms.Nameless.{Nameless}
use Rattle.hol_model.specs.Goals.Goals.{Sequent}
use Rattle.hol_model.specs.Texts.Reading.{Scope}
use Rattle.hol_model.specs.Texts.Texts.{IsNamedType, ReadsType}
use Rattle.hol_model.specs.Texts.SequentGrammar.{ReadsSequent}
use Rattle.hol_model.specs.Texts.SequentTexts.{IsReadableFormula, AreReadableFormulas}
use Rattle.hol_check_review.specs.Reviews.{IsNamedFormula, AreNamedFormulas, IsClaimText, IsTypeText}

-- one more
formulas_more : (scope : Scope) (shown : List Nameless) (terms : List NamedTerm) (one : Nameless) (term : NamedTerm) → AreNamedFormulas scope shown terms → IsNamedFormula scope one term
    → AreNamedFormulas scope (shown ++ one ∷ []) (terms ++ term ∷ [])
formulas_more scope [] [] one term are is = (is, tt)
formulas_more scope [] (first ∷ terms) one term are is = absurd are
formulas_more scope (first ∷ shown) [] one term are is = absurd are
formulas_more scope (first ∷ shown) (other ∷ terms) one term are is = (are.0, formulas_more scope shown terms one term are.1 is)

pub formula_more : (scope : Scope) (shown : List Nameless) (at : ℕ) (terms : List NamedTerm) (one : Nameless) (term : NamedTerm) → Some one ≡ slice_get shown at
    → AreNamedFormulas scope (take at shown) terms → IsNamedFormula scope one term → AreNamedFormulas scope (take (at + 1) shown) (terms ++ term ∷ [])
formula_more scope shown at terms one term there are is = elim (slice_get_cases shown at).1 [
  | inl found ↦ (
      let one_is : ◌≡◌ {A = Option Nameless} (Some found.0) (Some one) = sym (there ∙ found.2) in
      let same : found.0 ≡ one = cc in
      subst (λ (list : List Nameless). AreNamedFormulas scope list (terms ++ term ∷ []))
      (sym (take_more shown at found.0 found.1 ∙ ap (λ (x : Nameless). take at shown ++ x ∷ []) (found.3 ∙ same)))
      (formulas_more scope (take at shown) terms one term are is)
      )
  | inr past ↦ (let none : ◌≡◌ {A = Option Nameless} (Some one) None = there ∙ past.1 in cc)
]

readable_formulas : (scope : Scope) (shown : List Nameless) (terms : List NamedTerm) → AreNamedFormulas scope shown terms → AreReadableFormulas scope terms
readable_formulas scope [] [] are = tt
readable_formulas scope [] (term ∷ terms) are = absurd are
readable_formulas scope (one ∷ shown) [] are = absurd are
readable_formulas scope (one ∷ shown) (term ∷ terms) are = (are.0.readable, readable_formulas scope shown terms are.1)

-- a place below the length has an item
pub item_there : (shown : List Nameless) (at count : ℕ) → ◌≡◌ {A = Option Nameless} None (slice_get shown at) → at < count → count ≡ length shown → ⊥
item_there shown at count none before counted = elim (slice_get_cases shown at).1 [
  | inl found ↦ (let some : ◌≡◌ {A = Option Nameless} (Some found.0) None = sym found.2 ∙ sym none in cc)
  | inr past ↦ omega arith
]

module _ {S : Type 0} (bytes : S → List ℕ) where
  -- the text of a claim
  pub claim_text : (result : Result S Fault) (scope : Scope) (sequent : Sequent) (items hyps : List NamedTerm) (shown : Nameless) (concl : NamedTerm) → hyps ≡ items → shown ≡ sequent.conclusion
      → AreNamedFormulas scope sequent.hypotheses items → IsNamedFormula scope shown concl
      → IfOk result (λ text. AreReadableFormulas scope hyps → IsReadableFormula scope concl → ReadsSequent scope (bytes text) (hyps, concl))
      → IfOk result (λ text. IsClaimText scope sequent (bytes text))
  claim_text (Err fault) scope sequent items hyps shown concl same shows are is reads = tt
  claim_text (Ok text) scope sequent items hyps shown concl same shows are is reads =
      let formulas : AreNamedFormulas scope sequent.hypotheses hyps = subst (AreNamedFormulas scope sequent.hypotheses) (sym same) are in
      record {
        hypotheses = hyps;
        conclusion = concl;
        reads = reads (readable_formulas scope sequent.hypotheses hyps formulas) is.readable;
        assumed = formulas;
        concluded = subst (λ (term : Nameless). IsNamedFormula scope term concl) shows is;
      }

  -- the text of a type
  pub type_text : (result : Result S Fault) (scope : Scope) (ty shown : HolType) → ty ≡ shown → IsNamedType scope ty
      → IfOk result (λ text. (over : Scope) → IsNamedType over ty → ReadsType over (bytes text) ty) → IfOk result (λ text. IsTypeText scope shown (bytes text))
  type_text (Ok text) scope ty shown is named reads = subst (λ (t : HolType). ReadsType scope (bytes text) t) is (reads scope named)
  type_text (Err fault) scope ty shown is named reads = tt
