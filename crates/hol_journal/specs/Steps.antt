-- The entries of a journal: how each theorem of a recorder followed, and what was declared.
use Rattle.std.specs.Prelude.{ℕ, List, [], ◌∷◌, map, Option, Some, slice_get}
use Rattle.hol_model.specs.Terms.HolType.{HolType}
use Rattle.hol_model.specs.Terms.NamedTerm.{NamedTerm}
use Rattle.hol_model.specs.Terms.Nameless.{image}
use Rattle.hol_model.specs.Goals.Goals.{Sequent}
use Rattle.hol_model.specs.Kernel.Theorem.{Theorem}
use Rattle.hol_model.specs.Logs.LogState.{no_sequent}

-- How a theorem follows: by a rule of HOL Light's `fusion.ml` from the theorems of earlier entries, which are named by
-- their numbers, or as an axiom or a definition.
pub data Step : Type 0 where
  by_refl : NamedTerm → Step
  by_trans : ℕ → ℕ → Step
  by_mk_comb : ℕ → ℕ → Step
  -- the variable, and the theorem
  by_abs : NamedTerm → ℕ → Step
  by_beta : NamedTerm → Step
  by_assume : NamedTerm → Step
  by_eq_mp : ℕ → ℕ → Step
  by_deduct : ℕ → ℕ → Step
  -- the theorem, and pairs of a new term and an old one
  by_inst : ℕ → List (NamedTerm × NamedTerm) → Step
  -- the theorem, and pairs of a new type and an old one
  by_inst_type : ℕ → List (HolType × HolType) → Step
  by_eta : Step
  by_select : Step
  -- the constant's name, and what it is defined as
  by_definition : List ℕ → NamedTerm → Step

pub data JournalEntry : Type 0 where
  derived : Step → Sequent → JournalEntry
  declared_type : List ℕ → JournalEntry
  declared_constant : List ℕ → HolType → JournalEntry

-- the images of a theorem's terms
abbrev pub sequent_of_theorem : Theorem → Sequent
sequent_of_theorem theorem = record { hypotheses = map image theorem.hypotheses; conclusion = image theorem.conclusion }

abbrev pub derived_sequent : Option JournalEntry → Sequent
derived_sequent (Some (derived step sequent)) = sequent
derived_sequent _ = no_sequent

-- the sequent of an entry
abbrev pub sequent_at : List JournalEntry → ℕ → Sequent
sequent_at entries number = derived_sequent (slice_get entries number)

-- what a step names

abbrev pub both_parts : {A : Type 0} → List (A × A) → List A
both_parts [] = []
both_parts (pair ∷ pairs) = pair.0 ∷ pair.1 ∷ both_parts pairs

abbrev pub terms_of : Step → List NamedTerm
terms_of (by_refl term) = term ∷ []
terms_of (by_abs binder theorem) = binder ∷ []
terms_of (by_beta term) = term ∷ []
terms_of (by_assume term) = term ∷ []
terms_of (by_inst theorem pairs) = both_parts pairs
terms_of (by_definition name term) = term ∷ []
terms_of _ = []

abbrev pub types_of : Step → List HolType
types_of (by_inst_type theorem pairs) = both_parts pairs
types_of _ = []

abbrev pub entries_of : Step → List ℕ
entries_of (by_trans first second) = first ∷ second ∷ []
entries_of (by_mk_comb first second) = first ∷ second ∷ []
entries_of (by_abs binder theorem) = theorem ∷ []
entries_of (by_eq_mp first second) = first ∷ second ∷ []
entries_of (by_deduct first second) = first ∷ second ∷ []
entries_of (by_inst theorem pairs) = theorem ∷ []
entries_of (by_inst_type theorem pairs) = theorem ∷ []
entries_of _ = []
