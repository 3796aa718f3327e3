-- Rows of truth values: their texts, and that their atoms are told by theirs.
use Rattle.std.proofs.Common.{◌≡◌, ℕ, List, [], ◌∷◌, map, Bool, refl, sym, ap, ◌∙◌, inl, inr, Some, Global, string_bytes}
use Rattle.std.specs.Prelude.{String, ◌++◌, codes}
use Rattle.hol_model.specs.declared.fault.Fault.{Fault}
use Rattle.hol_model.specs.declared.fault.Fault.TheVariants.{Memory, NotTautology}
use Rattle.hol_model.specs.Propositional.Propositions.{atoms_of}
use Rattle.hol_model.specs.Logic.Derivable.{IsMember}
use Rattle.hol_model.specs.Terms.NamedTerm.{NamedTerm}
use Rattle.hol_model.specs.Texts.SequentTexts.{IsReadableFormula, AreReadableFormulas}
use Rattle.hol_model.specs.Texts.Reading.{Scope}
use Rattle.hol_model_sessions.specs.Replies.{refusal_of, value_text, further_values, row_text}
use Rattle.hol_model_sessions.specs.ScriptSessions.{values_of, row_of_fault}
use Rattle.hol_script_session.specs.Answers.{plain}
use Rattle.hol_script_inference.specs.Rows.{values_behind, refusal_for, TellsRow}

-- a fault has a row of values, or it has none
pub data RowCases (fault : Fault) : Type 0 where
  has_row : (count : ℕ) (row : List Bool) → fault ≡ NotTautology count row → RowCases fault
  has_none : ((atoms : List NamedTerm) → row_of_fault atoms fault ≡ []) → RowCases fault

pub row-cases : (fault : Fault) → RowCases fault
row-cases (NotTautology count row) = has_row count row refl
row-cases fault = has_none (λ atoms. refl)

-- a fault of another kind has none
pub no-row : (fault : Fault) → ((count : ℕ) (row : List Bool) → fault ≡ NotTautology count row → ⊥) → (atoms : List NamedTerm) → row_of_fault atoms fault ≡ []
no-row fault other atoms = elim (row-cases fault) [
  | has_row count row is ↦ absurd (other count row is)
  | has_none none ↦ none atoms
]

-- where each atom is told by its text, so is each in a row
pub values-readable : (scope : Scope) (atoms : List NamedTerm) (row : List Bool) → ((a : NamedTerm) → IsMember a atoms → IsReadableFormula scope a)
    → AreReadableFormulas scope (map (λ value. value.0) (values_of atoms row))
values-readable scope [] row each = tt
values-readable scope (atom ∷ atoms) [] each = tt
values-readable scope (atom ∷ atoms) (value ∷ row) each = (each atom (inl refl), values-readable scope atoms row (λ a m. each a (inr m)))

further-behind : (scope : Scope) (values : List (NamedTerm × Bool)) → values_behind scope (codes ", ") values ≡ further_values scope values
further-behind scope [] = refl
further-behind scope (value ∷ values) = ap (λ (further : List ℕ). codes ", " ++ value_text scope value ++ further) (further-behind scope values)

pub row_behind : (scope : Scope) (values : List (NamedTerm × Bool)) → values_behind scope (codes " ") values ≡ row_text scope values
row_behind scope [] = refl
row_behind scope (value ∷ values) = ap (λ (further : List ℕ). codes " " ++ value_text scope value ++ further) (further-behind scope values)

-- ---- the refusal with its row

pub tells-none : (scope : Scope) (term : NamedTerm) (fault : Fault) → ((atoms : List NamedTerm) → row_of_fault atoms fault ≡ []) → TellsRow scope term fault (plain fault)
tells-none scope term fault none = record {
  refusal = refusal_for term fault;
  is = inr refl;
  says = record { same_fault = refl; spelled = ap (row_text scope) (sym (none (atoms_of term))) };
}

pub tells-memory : (scope : Scope) (term : NamedTerm) (fault : Fault) → TellsRow scope term fault (plain Memory)
tells-memory scope term fault = record { refusal = refusal_of Memory; is = inl refl; says = record { same_fault = refl; spelled = refl } }

pub tells-row : (scope : Scope) (term : NamedTerm) (fault : Fault) (count : ℕ) (row : List Bool) (text : String Global) → fault ≡ NotTautology count row
    → string_bytes text ≡ row_text scope (values_of (atoms_of term) row) → TellsRow scope term fault (record { fault = NotTautology count row; row = Some text })
tells-row scope term fault count row text is spelled = record {
  refusal = refusal_for term fault;
  is = inr refl;
  says = record { same_fault = sym is; spelled = spelled ∙ ap (λ f. row_text scope (row_of_fault (atoms_of term) f)) (sym is) };
}
