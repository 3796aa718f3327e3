-- The names of declared types and of constants in what is written.
use Rattle.std.specs.Prelude.{ℕ, List, [], ◌∷◌, ◌++◌}
use Rattle.std.specs.List.{flat_map}
use Rattle.hol_model.specs.Logs.LogLine.{LogLine}
use Rattle.hol_model.specs.Logs.LogLine.LogLine.{declared_type_line, constant_line}
use Rattle.hol_journal_log.specs.LogWriting.{Written}

abbrev pub name_in_line : LogLine → List (List ℕ)
name_in_line (declared_type_line name) = name ∷ []
name_in_line (constant_line name ty) = name ∷ []
name_in_line _ = []

abbrev pub names_in_lines : List LogLine → List (List ℕ)
names_in_lines lines = flat_map name_in_line lines

abbrev pub names_written : Written → List (List ℕ)
names_written written = names_in_lines written.types ++ names_in_lines written.terms
