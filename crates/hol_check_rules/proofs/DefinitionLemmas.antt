-- What a definition answers.
use Rattle.std.proofs.Common.{◌≡◌, ℕ, ◌<◌, List, [], Bool, true, false, not, ◌&&◌, refl, ◌∙◌, ap, None, Some, Err, inl, inr, length}
use Rattle.std.specs.Prelude.{slice_get}
use Rattle.hol_model.specs.declared.fault.Cause.TheVariants.{Large}
use Rattle.hol_model.specs.declared.fault.Fault.TheVariants.{TooLarge}
use Rattle.hol_model.specs.Terms.Nameless.{Nameless, const}
use Rattle.hol_model.specs.Terms.Measures.{nameless_within_limits}
use Rattle.hol_model.specs.Logs.LogState.{term_type}
use Rattle.hol_model.specs.Logs.LogSequents.{equation_of, supposing}
use Rattle.hol_check_terms.specs.Terms.{TermTable, name_at, type_at, term_at, IsGrown}
use Rattle.hol_check_rules.specs.Steps.{step_cause, ruled, is_definable, definition_step}
use Rattle.hol_check_changes.specs.Forming.{IsFormed, IsFitting}
use Rattle.hol_check_rules.proofs.StateLemmas.{name-grown}
use Rattle.hol_check_rules.proofs.StepLemmas.{no_cause, large_cause}
use Rattle.hol_check_terms.proofs.GrowthLemmas.{type-there, term-there, term-grown, IsGrown-trans}

with-true : (p : Bool) → (p && true) ≡ p
with-true true = refl
with-true false = refl

module _ (name : List ℕ) (body : Nameless) (definable : is_definable (term_type body) body ≡ true) where
  pub definition-fits : nameless_within_limits (equation_of (const name (term_type body)) body) ≡ true → step_cause (definition_step name body) ≡ None
  definition-fits fits =
      let sequent = supposing [] (equation_of (const name (term_type body)) body) in
      ap (λ b. step_cause (ruled b sequent)) (ap not definable) ∙ no_cause sequent (with-true (nameless_within_limits (equation_of (const name (term_type body)) body)) ∙ fits)

  pub definition-large : nameless_within_limits (equation_of (const name (term_type body)) body) ≡ false → step_cause (definition_step name body) ≡ Some Large
  definition-large past =
      let sequent = supposing [] (equation_of (const name (term_type body)) body) in
      ap (λ b. step_cause (ruled b sequent)) (ap not definable) ∙ large_cause sequent (with-true (nameless_within_limits (equation_of (const name (term_type body)) body)) ∙ past)

-- the equation, while the tables grow
module _ (t0 t1 t3 : TermTable) (first : IsGrown t0 t1) (second : IsGrown t1 t3) (name ty constant body : ℕ) (name_within : name < length t0.names) (fitting : IsFitting t0.terms body)
    (typed : slice_get t1.types ty ≡ Some (term_type (term_at t0.terms body))) (made : slice_get t3.terms constant ≡ Some (const (name_at t1.names name) (type_at t1.types ty))) where
  body-is : term_at t3.terms body ≡ term_at t0.terms body
  body-is = term-grown t0 t3 body (IsGrown-trans t0 t1 t3 first second) fitting.within

  constant-is : term_at t3.terms constant ≡ const (name_at t0.names name) (term_type (term_at t0.terms body))
  constant-is = term-there t3.terms constant (const (name_at t1.names name) (type_at t1.types ty)) made
      ∙ (λ i. const (name-grown t0 t1 name first name_within i) (type-there t1.types ty (term_type (term_at t0.terms body)) typed i))

  pub definition-is : equation_of (term_at t3.terms constant) (term_at t3.terms body) ≡ equation_of (const (name_at t0.names name) (term_type (term_at t0.terms body))) (term_at t0.terms body)
  definition-is = λ i. equation_of (constant-is i) (body-is i)

  pub definable-is : is_definable (type_at t1.types ty) (term_at t1.terms body) ≡ is_definable (term_type (term_at t0.terms body)) (term_at t0.terms body)
  definable-is = λ i. is_definable (type-there t1.types ty (term_type (term_at t0.terms body)) typed i) (term-grown t0 t1 body first fitting.within i)

pub past-only : (wanted : Nameless) (terms : List Nameless) → IsFormed wanted (Err TooLarge) terms → nameless_within_limits wanted ≡ false
past-only wanted terms formed = elim formed.refused [ inl memory ↦ cc | inr large ↦ large.1 ]
