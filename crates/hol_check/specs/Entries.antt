-- The entries of a log's theory, as a caller sees them and as they are printed.
use Rattle.std.specs.Prelude.{◌<◌, ℕ, List, [], ◌++◌, codes, length, reverse}
use Rattle.std.specs.List.{slice_index_or}
use Rattle.hol_model.specs.Terms.Nameless.{const}
use Rattle.hol_model.specs.Logic.Theory.{Theory, Entry, definition, declaration_of_type, declaration_of_constant}
use Rattle.hol_model.specs.Logic.Derivable.{nameless_equation}
use Rattle.hol_model.specs.Logs.LogClaims.{nameless_bytes}
use Rattle.hol_check.specs.declared.entry.LogEntry.TheInside.{Inside}
use Rattle.hol_check.specs.declared.entry.EntryParts.{EntryParts}
use Rattle.hol_check.specs.declared.entry.EntryParts.TheVariants.{Definition, DeclaredType, DeclaredConstant}

-- in the order of their lines
abbrev pub entries_in : Theory → List Entry
entries_in theory = reverse theory

-- what a place that has no entry stands for
abbrev pub no_entry : Entry
no_entry = declaration_of_type []

abbrev pub viewed_entry : Inside → Entry
viewed_entry entry = slice_index_or (entries_in entry.log.value.theory) entry.place no_entry

-- the entry stands in its log
abbrev pub IsListed : Inside → Type 0
IsListed entry = entry.place < length (entries_in entry.log.value.theory)

-- the entry that says this
abbrev pub entry_of_parts : EntryParts → Entry
entry_of_parts (Definition name ty body) = definition name.now ty body
entry_of_parts (DeclaredType name) = declaration_of_type name.now
entry_of_parts (DeclaredConstant name ty) = declaration_of_constant name.now ty

-- `DEF c: |- c = t`, `TYPE ty` or `CONST c`, and then the rest
abbrev pub entry_bytes : Entry → List ℕ → List ℕ
entry_bytes (definition name ty body) rest = codes "DEF " ++ (name ++ (codes ": |- " ++ nameless_bytes (nameless_equation ty (const name ty) body) rest))
entry_bytes (declaration_of_type name) rest = codes "TYPE " ++ (name ++ rest)
entry_bytes (declaration_of_constant name ty) rest = codes "CONST " ++ nameless_bytes (const name ty) rest

abbrev pub entry_text : Entry → List ℕ
entry_text entry = entry_bytes entry []
