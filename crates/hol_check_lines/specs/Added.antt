-- What a log has given, with what a line adds.
use Rattle.std.specs.Prelude.{◌≡◌, ◌∷◌, ◌++◌, ◌||◌}
use Rattle.hol_model.specs.Logs.LogState.{LogState}
use Rattle.hol_check_terms.specs.Terms.{TermTable}
use Rattle.hol_check_rules.specs.State.{state_of, entry_in, theory_in, IsContents}
use Rattle.hol_check_rules.specs.Judged.{added_types, added_terms, added_theorems, added_entries, added_claims, is_end, CanBeAdded}
use Rattle.hol_check_rules.specs.declared.state.TheoryEntry.{TheoryEntry}
use Rattle.hol_check_rules.specs.declared.state.Contents.{Contents}
use Rattle.hol_check_rules.specs.declared.state.Addition.{Addition}

-- the state with an addition
abbrev pub with_addition : TermTable → Contents → Addition → LogState
with_addition table contents addition =
    let state = state_of table contents in
    record {
      version = state.version;
      types = state.types ++ added_types table addition;
      terms = state.terms ++ added_terms table contents.terms.items addition;
      theorems = state.theorems ++ added_theorems table addition;
      theory = added_entries table addition ++ state.theory;
      claims = state.claims ++ added_claims table contents.theorems.items addition;
      is_ended = state.is_ended || is_end addition;
    }

-- the later contents are the earlier ones and the addition
pub record IsAdded (table : TermTable) (contents : Contents) (addition : Addition) (now : Contents) : Type 0 where
  pub is_contents : IsContents table now
  pub state : state_of table now ≡ with_addition table contents addition

-- what can be added is added
abbrev pub Gains : Contents → Addition → Contents → Type 0
Gains contents addition now = (table : TermTable) → IsContents table contents → CanBeAdded table contents addition → IsAdded table contents addition now

-- what can be added found no memory
abbrev pub Keeps : Contents → Addition → Contents → Type 0
Keeps contents addition now = (table : TermTable) → IsContents table contents → CanBeAdded table contents addition → IsContents table now

-- the later contents are the earlier ones and an entry of the theory
pub record IsEntered (table : TermTable) (contents : Contents) (entry : TheoryEntry) (now : Contents) : Type 0 where
  pub is_contents : IsContents table now
  pub state : state_of table now ≡ record (state_of table contents) { theory = entry_in table entry ∷ theory_in table contents.entries.items }
