-- What the lines of a proof log have given so far, and what numbers name there.
use Rattle.std.specs.Prelude.{ℕ, List, [], ◌∷◌, Bool, true, false, ◌&&◌, map}
use Rattle.std.specs.List.{slice_index_or}
use Rattle.hol_model.specs.Terms.HolType.{HolType, bool_type}
use Rattle.hol_model.specs.Terms.Nameless.{Nameless, bound, same_term, nameless_cmp, nameless_type}
use Rattle.hol_model.specs.Logic.Theory.{Theory}
use Rattle.hol_model.specs.Kernel.Theorem.{by_order}
use Rattle.hol_model.specs.Goals.Goals.{Sequent}
use Rattle.hol_model.specs.Logs.LogLine.{LogVersion}

-- a name for a theorem's sequent
pub record LogClaim : Type 0 where
  pub name : List ℕ
  pub sequent : Sequent

-- Types, terms and theorems by their numbers, the entries of the theory with the newest first, and the claims. The
-- hypotheses of each sequent stand in the order of terms, each once.
pub record LogState : Type 0 where
  pub version : LogVersion
  pub types : List HolType
  pub terms : List Nameless
  pub theorems : List Sequent
  pub theory : Theory
  pub claims : List LogClaim
  pub is_ended : Bool

-- after the header
abbrev pub first_state : LogVersion → LogState
first_state version = record { version = version; types = []; terms = []; theorems = []; theory = []; claims = []; is_ended = false }

-- sets of hypotheses

-- an ordered list with one more in its place, unless it is there
abbrev pub with_term : List Nameless → Nameless → List Nameless
with_term [] new = new ∷ []
with_term (first ∷ rest) new = by_order (nameless_cmp new first) (new ∷ first ∷ rest) (first ∷ rest) (first ∷ with_term rest new)

-- an ordered list with each of a list put in its place, one after another
abbrev pub with_terms : List Nameless → List Nameless → List Nameless
with_terms terms [] = terms
with_terms terms (new ∷ more) = with_terms (with_term terms new) more

-- the members of a list in the order of terms, each once
abbrev pub set_of : List Nameless → List Nameless
set_of terms = with_terms [] terms

abbrev pub same_terms : List Nameless → List Nameless → Bool
same_terms [] [] = true
same_terms (x ∷ xs) (y ∷ ys) = same_term x y && same_terms xs ys
same_terms _ _ = false

-- what numbers name

abbrev pub type_at : LogState → ℕ → HolType
type_at state number = slice_index_or state.types number bool_type

abbrev pub term_at : LogState → ℕ → Nameless
term_at state number = slice_index_or state.terms number (bound 0)

-- what a number that names nothing stands for
abbrev pub no_sequent : Sequent
no_sequent = record { hypotheses = []; conclusion = bound 0 }

abbrev pub theorem_at : LogState → ℕ → Sequent
theorem_at state number = slice_index_or state.theorems number no_sequent

abbrev pub conclusion_at : LogState → ℕ → Nameless
conclusion_at state number = (theorem_at state number).conclusion

abbrev pub hypotheses_at : LogState → ℕ → List Nameless
hypotheses_at state number = (theorem_at state number).hypotheses

-- the type of a term
abbrev pub term_type : Nameless → HolType
term_type term = nameless_type [] term

abbrev pub type_of_term_at : LogState → ℕ → HolType
type_of_term_at state number = term_type (term_at state number)

abbrev pub terms_at : LogState → List ℕ → List Nameless
terms_at state numbers = map (term_at state) numbers

abbrev pub term_pairs_at : LogState → List (ℕ × ℕ) → List (Nameless × Nameless)
term_pairs_at state pairs = map (λ pair. (term_at state pair.0, term_at state pair.1)) pairs

abbrev pub type_pairs_at : LogState → List (ℕ × ℕ) → List (HolType × HolType)
type_pairs_at state pairs = map (λ pair. (type_at state pair.0, type_at state pair.1)) pairs
