-- New names, by their numbers.
use Rattle.std.specs.Prelude.{◌≡◌, ℕ, List, Bool, true, false, ◌&&◌, Option, None, Some, slice_get}
use Rattle.hol_model.specs.Logic.Theory.{Theory}
use Rattle.hol_model.specs.Logic.Legality.{is_new_name}
use Rattle.hol_check_terms.specs.Terms.{name_at}

-- the name is legal and new, and has the number
pub record IsNewName (is_legal : Bool) (entries : Theory) (name : List ℕ) (names : List (List ℕ)) (number : ℕ) : Type 0 where
  pub legal : is_legal ≡ true
  pub new : is_new_name entries (name_at names number) ≡ true
  pub named : slice_get names number ≡ Some name

abbrev pub FindsNewName : Bool → Theory → List ℕ → List (List ℕ) → Option ℕ → Type 0
FindsNewName is_legal entries name names None = (is_legal && is_new_name entries name) ≡ false
FindsNewName is_legal entries name names (Some number) = IsNewName is_legal entries name names number
