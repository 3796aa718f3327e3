-- What the lines of a log have given, where types, terms and names are numbers of tables.
use Rattle.std.specs.Prelude.{◌<◌, ◌≤◌, List, map, reverse, length}
use Rattle.std.specs.List.{All, slice_index_or}
use Rattle.hol_model.specs.declared.limits.TheConstants.{DEFINITIONS_LIMIT}
use Rattle.hol_model.specs.Terms.Nameless.{Nameless, image}
use Rattle.hol_model.specs.Logic.Theory.{Theory, Entry, definition, declaration_of_type, declaration_of_constant}
use Rattle.hol_model.specs.Goals.Goals.{Sequent}
use Rattle.hol_model.specs.Logs.LogState.{LogState, LogClaim, no_sequent}
use Rattle.hol_logtext.specs.Lines.{version_of}
use Rattle.hol_check_terms.specs.Terms.{TermTable, name_at, type_at, term_at}
use Rattle.hol_check_rules.specs.Hypotheses.{terms_in, AreOrdered}
use Rattle.hol_check_rules.specs.Known.{Knows}
use Rattle.hol_check_rules.specs.declared.state.Theorem.{Theorem}
use Rattle.hol_check_rules.specs.declared.state.TheoryEntry.{TheoryEntry}
use Rattle.hol_check_rules.specs.declared.state.TheoryEntry.TheVariants.{Definition, DeclaredType, DeclaredConstant}
use Rattle.hol_check_rules.specs.declared.state.ListedClaim.{ListedClaim}
use Rattle.hol_check_rules.specs.declared.state.Contents.{Contents}
use Rattle.hol_check_changes.specs.Forming.{IsFitting}
use Rattle.hol_check_written.specs.Written.{named_terms, AreWritten}
use Rattle.hol_check_written.specs.Making.{AreMade}

-- what numbers denote

abbrev pub sequent_in : List Nameless → Theorem → Sequent
sequent_in terms theorem = record { hypotheses = map (term_at terms) theorem.hypotheses.items; conclusion = term_at terms theorem.conclusion }

abbrev pub entry_in : TermTable → TheoryEntry → Entry
entry_in table (Definition name ty body) = definition (name_at table.names name) (type_at table.types ty) (term_at table.terms body)
entry_in table (DeclaredType name) = declaration_of_type (name_at table.names name)
entry_in table (DeclaredConstant name ty) = declaration_of_constant (name_at table.names name) (type_at table.types ty)

-- the entries of the theory, the newest first
abbrev pub theory_in : TermTable → List TheoryEntry → Theory
theory_in table entries = reverse (map (entry_in table) entries)

abbrev pub claim_in : TermTable → List Theorem → ListedClaim → LogClaim
claim_in table theorems claim = record {
  name = name_at table.names claim.name;
  sequent = slice_index_or (map (sequent_in table.terms) theorems) claim.theorem no_sequent;
}

abbrev pub state_of : TermTable → Contents → LogState
state_of table contents = record {
  version = version_of contents.version;
  types = map (type_at table.types) contents.types.items;
  terms = map image (named_terms table.terms contents.terms.items);
  theorems = map (sequent_in table.terms) contents.theorems.items;
  theory = theory_in table contents.entries.items;
  claims = map (claim_in table contents.theorems.items) contents.claims.items;
  is_ended = contents.is_ended;
}

-- what holds of the numbers

-- hypotheses and conclusion are within the limits, and the hypotheses stand in order
pub record IsFittingTheorem (terms : List Nameless) (theorem : Theorem) : Type 0 where
  pub hypotheses : All (IsFitting terms) theorem.hypotheses.items
  pub ordered : AreOrdered (terms_in terms theorem.hypotheses.items)
  pub conclusion : IsFitting terms theorem.conclusion

abbrev pub HasEntryParts : TermTable → TheoryEntry → Type 0
HasEntryParts table (Definition name ty body) = (name < length table.names) × (ty < length table.types) × (body < length table.terms)
HasEntryParts table (DeclaredType name) = name < length table.names
HasEntryParts table (DeclaredConstant name ty) = (name < length table.names) × (ty < length table.types)

pub record IsClaim (table : TermTable) (theorems : List Theorem) (claim : ListedClaim) : Type 0 where
  pub name : claim.name < length table.names
  pub theorem : claim.theorem < length theorems

-- each number stands in its table, what is kept of terms is true, what theorems have is within the limits, and the theory
-- is what is known
pub record IsContents (table : TermTable) (contents : Contents) : Type 0 where
  pub types : All (λ number. number < length table.types) contents.types.items
  pub terms : AreWritten table contents.terms.items
  pub made : AreMade table contents.terms.items contents.made.entries
  pub theorems : All (IsFittingTheorem table.terms) contents.theorems.items
  pub entries : All (HasEntryParts table) contents.entries.items
  pub room : length contents.entries.items ≤ DEFINITIONS_LIMIT
  pub knows : Knows table contents.known.constants.entries contents.known.declared.keys (theory_in table contents.entries.items)
  pub claims : All (IsClaim table contents.theorems.items) contents.claims.items
