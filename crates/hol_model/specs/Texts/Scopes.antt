-- What the names of a text stand for over a theory.
use Rattle.std.specs.Prelude.{ℕ, List, Option, None}
use Rattle.hol_model.specs.Terms.HolType.{HolType}
use Rattle.hol_model.specs.Logic.Theory.{Theory, generic_type}
use Rattle.hol_model.specs.Logic.KnownTerm.{is_declared}
use Rattle.hol_model.specs.Texts.Reading.{Scope}

-- what the names of a text stand for over a theory, with these declared variables
abbrev pub scope_with : Theory → (List ℕ → Option HolType) → Scope
scope_with theory variables = record { generic_type = generic_type theory; variable_type = variables; declares_type = is_declared theory }

-- the same where no variable is declared
abbrev pub scope_over : Theory → Scope
scope_over theory = scope_with theory (λ name. None)
