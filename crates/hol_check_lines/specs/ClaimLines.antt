-- What claims name, by numbers.
use Rattle.std.specs.Prelude.{◌≡◌, ℕ, List, Bool, true, false, ◌&&◌, Option, None, Some}
use Rattle.std.specs.List.{All, list_any}
use Rattle.std.proofs.Common.{Vec, Global}
use Rattle.hol_model.specs.Terms.Nameless.{Nameless, same_term}
use Rattle.hol_model.specs.Goals.Goals.{Sequent}
use Rattle.hol_model.specs.Logs.LogState.{LogState, same_terms, terms_at}
use Rattle.hol_model.specs.Logs.LogFaults.{is_no_term}
use Rattle.hol_check_rules.specs.Hypotheses.{terms_in}
use Rattle.hol_check_changes.specs.Forming.{IsFitting}

-- the numbers are those of the terms that a line names
pub record NamesTerms (state : LogState) (lines : List ℕ) (terms : List Nameless) (numbers : List ℕ) : Type 0 where
  pub are_there : list_any (is_no_term state) lines ≡ false
  pub named : terms_in terms numbers ≡ terms_at state lines
  pub fitting : All (IsFitting terms) numbers

abbrev pub AreNamed : LogState → List ℕ → List Nameless → Option (Vec ℕ Global) → Type 0
AreNamed state lines terms None = list_any (is_no_term state) lines ≡ true
AreNamed state lines terms (Some numbers) = NamesTerms state lines terms numbers.items

-- the sequent has this conclusion and these hypotheses
abbrev pub is_sequent : Nameless → List Nameless → Sequent → Bool
is_sequent conclusion hypotheses sequent = same_term conclusion sequent.conclusion && same_terms hypotheses sequent.hypotheses
