-- Sequents that can be read back.
use Rattle.std.specs.Prelude.{◌≡◌, List, [], ◌∷◌, true}
use Rattle.hol_model.specs.Terms.NamedTerm.{NamedTerm}
use Rattle.hol_model.specs.Kernel.Rules.{is_formula}
use Rattle.hol_model.specs.Texts.Reading.{Scope}
use Rattle.hol_model.specs.Texts.Texts.{IsReadableTerm, text_of_sequent}
use Rattle.hol_model.specs.Texts.SequentGrammar.{ReadsSequent}

-- a term that can be read back, of the type of truth values
pub record IsReadableFormula (scope : Scope) (term : NamedTerm) : Type 0 where
  pub readable : IsReadableTerm scope term
  pub is_formula : is_formula term ≡ true

abbrev pub AreReadableFormulas : Scope → List NamedTerm → Type 0
AreReadableFormulas scope [] = Unit {0}
AreReadableFormulas scope (term ∷ terms) = IsReadableFormula scope term × AreReadableFormulas scope terms

-- Sequents of terms that can be read back are.
abbrev pub SequentsReadBack : Type 0
SequentsReadBack =
    (scope : Scope) (hypotheses : List NamedTerm) (conclusion : NamedTerm) → AreReadableFormulas scope hypotheses → IsReadableFormula scope conclusion
    → ReadsSequent scope (text_of_sequent scope hypotheses conclusion) (hypotheses, conclusion)
