-- Terms of lines in the tables, alone and under binders.
use Rattle.std.specs.Prelude.{◌≡◌, ◌⊎◌, ◌<◌, ◌≤◌, ◌+◌, ℕ, List, [], ◌∷◌, length, Bool, true, Some, slice_get, Result, IfOk, IfErr}
use Rattle.hol_model.specs.declared.limits.TheConstants.{TERM_HEIGHT_LIMIT}
use Rattle.hol_model.specs.declared.fault.Fault.{Fault}
use Rattle.hol_model.specs.declared.fault.Fault.TheVariants.{Memory}
use Rattle.hol_model.specs.Terms.NamedTerm.{Binder, height}
use Rattle.hol_model.specs.Terms.Nameless.{Nameless, image_under}
use Rattle.hol_model.specs.Logs.LogSequents.{variable_name}
use Rattle.hol_model.specs.Logs.LogState.{term_type}
use Rattle.hol_check_terms.specs.Entries.{IsEntry}
use Rattle.hol_check_terms.specs.Terms.{TermTable, term_at, IsGrown}
use Rattle.hol_check_written.specs.Variables.{IsAmong}
use Rattle.hol_check_written.specs.Written.{IsFree, AreWritten, named_at, named_terms}
use Rattle.hol_check_written.specs.declared.variables.Variables.{Variables}
use Rattle.hol_check_written.specs.declared.written.Written.{Written}
use Rattle.hol_check_written.specs.declared.making.Binders.{Binders, Outermost, Under'}

-- binders

-- the names and types of the variables, the innermost first
abbrev pub binders_in : List Nameless → Binders → List Binder
binders_in terms Outermost = []
binders_in terms (Under' number covers p outer) = (variable_name (term_at terms number), term_type (term_at terms number)) ∷ binders_in terms outer

-- the variable of each binder is among these
abbrev pub AreCovered : Variables → Binders → Type 0
AreCovered variables Outermost = Unit {0}
AreCovered variables (Under' number covers p outer) = IsAmong variables number × AreCovered variables outer

-- each number is that of a variable, and the variables from there on outwards are among those that stand with it
abbrev pub AreBinders : List Nameless → Binders → Type 0
AreBinders terms Outermost = Unit {0}
AreBinders terms (Under' number covers p outer) = IsFree terms number × IsAmong covers number × AreCovered covers outer × AreBinders terms outer

-- what was made

abbrev pub HasEntry : List (ℕ × ℕ) → ℕ → Type 0
HasEntry entries line = (number : ℕ) × IsEntry entries line number

-- a line that was made is made
pub record Stays (earlier now : List (ℕ × ℕ)) : Type 0 where
  pub stays : (line : ℕ) → HasEntry earlier line → HasEntry now line

-- the number is that of the term that a line writes, under binders
pub record IsNumbered (table : TermTable) (written : List Written) (around : List Binder) (line number : ℕ) : Type 0 where
  pub line_within : line < length written
  pub number_is : slice_get table.terms number ≡ Some (image_under around (named_at (named_terms table.terms written) line))

pub record AreNumbered (table : TermTable) (written : List Written) (around : List Binder) (entries : List (ℕ × ℕ)) : Type 0 where
  pub numbered : (line number : ℕ) → IsEntry entries line number → IsNumbered table written around line number

-- the number is that of the term that a line writes
abbrev pub AreMade : TermTable → List Written → List (ℕ × ℕ) → Type 0
AreMade table written entries = AreNumbered table written [] entries

-- lines, the binders around a part, what was made, and what was made under these binders
pub record IsWork (table : TermTable) (written : List Written) (binders : Binders) (made known : List (ℕ × ℕ)) : Type 0 where
  pub written_are : AreWritten table written
  pub binders_are : AreBinders table.terms binders
  pub made_are : AreMade table written made
  pub known_are : AreNumbered table written (binders_in table.terms binders) known

-- binders and term together are not higher than a term may be
abbrev pub IsShallow : TermTable → List Written → List Binder → ℕ → Type 0
IsShallow table written around line = length around + height (named_at (named_terms table.terms written) line) ≤ TERM_HEIGHT_LIMIT

-- what is kept of a part: it stands under no binder's variable, or it is kept for these binders alone
pub record IsKept (is_apart : Bool) (line : ℕ) (IsPart : ℕ → Type 0) (made made_now known known_now : List (ℕ × ℕ)) : Type 0 where
  pub added : (other number : ℕ) → IsEntry made_now other number → IsEntry made other number ⊎ ((is_apart ≡ true) × (other ≡ line) × IsPart number)
  pub noted : (other number : ℕ) → IsEntry known_now other number → IsEntry known other number ⊎ ((other ≡ line) × IsPart number)
  pub stays : Stays made made_now

-- the wanted term has the number and is kept; only memory that is used up refuses it
pub record Keeps (wanted : Nameless) (is_apart : Bool) (line : ℕ) (earlier now : TermTable) (made made_now known known_now : List (ℕ × ℕ)) (result : Result ℕ Fault) : Type 0 where
  pub number : IfOk result (λ new. slice_get now.terms new ≡ Some wanted)
  pub refused : IfErr result (λ fault. fault ≡ Memory)
  pub grows : IsGrown earlier now
  pub kept : IsKept is_apart line (λ new. slice_get now.terms new ≡ Some wanted) made made_now known known_now

-- the term that a line writes has the number under binders; only memory that is used up refuses it
pub record Numbers (written : List Written) (around : List Binder) (line : ℕ) (earlier now : TermTable) (made made_now known_now : List (ℕ × ℕ)) (result : Result ℕ Fault) : Type 0 where
  pub number : IfOk result (λ new. slice_get now.terms new ≡ Some (image_under around (named_at (named_terms earlier.terms written) line)))
  pub refused : IfErr result (λ fault. fault ≡ Memory)
  pub grows : IsGrown earlier now
  pub made_are : AreMade now written made_now
  pub known_are : AreNumbered now written around known_now
  pub stays : Stays made made_now
