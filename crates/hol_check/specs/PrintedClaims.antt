-- The parts of a claim's text.
use Rattle.std.specs.Prelude.{ℕ, List, [], ◌∷◌, ◌++◌, Bool, true, false, map}
use Rattle.hol_model.specs.Texts.TypeGrammar.{TypeTree}
use Rattle.hol_model.specs.Terms.HolType.{HolType}
use Rattle.hol_model.specs.Terms.Nameless.{Nameless}
use Rattle.hol_model.specs.Texts.Printing.{as_atom, type_tree}
use Rattle.hol_model.specs.Texts.Texts.{type_bytes}
use Rattle.hol_model.specs.Goals.Goals.{Sequent}
use Rattle.hol_model.specs.Logs.LogClaims.{nameless_bytes, listed_nameless}
use Rattle.hol_model.specs.Logs.LogState.{LogClaim, no_sequent}
use Rattle.hol_check_terms.specs.Terms.{TermTable, term_at}
use Rattle.hol_check_rules.specs.declared.state.Contents.{Contents}
use Rattle.hol_check_rules.specs.State.{state_of}

-- the bytes where they are wanted, and then the rest
abbrev pub bytes_if : Bool → List ℕ → List ℕ → List ℕ
bytes_if true bytes rest = bytes ++ rest
bytes_if false bytes rest = rest

-- on the left of an arrow, or elsewhere
abbrev pub placed : Bool → TypeTree → TypeTree
placed true tree = as_atom tree
placed false tree = tree

abbrev pub type_text : Bool → HolType → List ℕ → List ℕ
type_text on_left ty rest = type_bytes (placed on_left (type_tree ty)) rest

abbrev pub terms_at : List Nameless → List ℕ → List Nameless
terms_at terms numbers = map (term_at terms) numbers

-- the hypotheses, `|- ` and the conclusion, and then the rest
abbrev pub sequent_bytes : Sequent → List ℕ → List ℕ
sequent_bytes sequent rest = listed_nameless sequent.hypotheses (124 ∷ 45 ∷ 32 ∷ nameless_bytes sequent.conclusion rest)

-- the name, `: ` and the sequent, and then the rest
abbrev pub claim_bytes : LogClaim → List ℕ → List ℕ
claim_bytes claim rest = claim.name ++ 58 ∷ 32 ∷ sequent_bytes claim.sequent rest

-- the claims that contents list
abbrev pub claims_in : TermTable → Contents → List LogClaim
claims_in table contents = (state_of table contents).claims

-- what a place that has no claim stands for
abbrev pub no_claim : LogClaim
no_claim = record { name = []; sequent = no_sequent }
