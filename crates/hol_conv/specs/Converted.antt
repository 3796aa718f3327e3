-- What the answers of conversions stand for.
use Rattle.std.specs.Prelude.{◌≡◌, [], Bool, true, false, Result, Ok, Err, IfOk}
use Rattle.hol_model.specs.declared.fault.Fault.{Fault}
use Rattle.hol_model.specs.Terms.NamedTerm.{NamedTerm, equation, is_within_limits}
use Rattle.hol_model.specs.Logic.Theory.{Theory}
use Rattle.hol_model.specs.Kernel.Theorem.{Theorem}
use Rattle.hol_model.specs.Texts.Reading.{◌>>=◌}
use Rattle.hol_model.specs.Kernel.Rules.{refl_outcome, trans_outcome}
use Rattle.hol_terms.specs.Binders.{has_abstractions}
use Rattle.hol_journal.specs.Journal.{Recorded, IsMade}
use Rattle.hol_theorem_library.specs.Library.{IsLibrary, IsContinued}
use Rattle.hol_theorem_library.specs.declared.library.Library.{Library}
use Rattle.hol_conv.specs.Makes.{StandsOn}
use Rattle.hol_conv.specs.declared.converted.Converted.{Converted}
use Rattle.hol_conv.specs.declared.converted.Converted.TheVariants.{Same, Changed}

-- |- t = t
abbrev pub same_theorem : Theory → NamedTerm → Theorem
same_theorem theory t = record { theory = theory; hypotheses = []; conclusion = equation t t }

-- the theorem that an answer on the term stands for
abbrev pub theorem_of : Theory → NamedTerm → Converted → Theorem
theorem_of theory t Same = same_theorem theory t
theorem_of theory t (Changed made stands) = made.theorem

abbrev pub answered : Theory → NamedTerm → Result Converted Fault → Result Theorem Fault
answered theory t (Ok answer) = Ok (theorem_of theory t answer)
answered theory t (Err fault) = Err fault

-- a theorem that was made, as an answer
abbrev pub changed_by : Bool → Result Recorded Fault → Result Converted Fault
changed_by stands (Ok made) = Ok (Changed made stands)
changed_by stands (Err fault) = Err fault

-- the recorder made the theorem, which stands on its theory where it is said to
pub record IsMadeFor (library : Library) (stands_here : Bool) (made : Recorded) : Type 0 where
  pub is_made : IsMade library.recorder made
  pub stands : stands_here ≡ true → StandsOn library.recorder.theory made

-- a theorem of the term is said to stand on the recorder's theory, and nothing is bound in the term, so that the theorem's left side is just the
-- term
pub record IsExact (t : NamedTerm) (stands_here : Bool) : Type 0 where
  pub said : stands_here ≡ true
  pub unbound : has_abstractions t ≡ false

-- that nothing changes is answered where REFL has room; another theorem is the recorder's
abbrev pub IsAnswerOf : Library → NamedTerm → Converted → Type 0
IsAnswerOf library t Same = is_within_limits (equation t t) ≡ true
IsAnswerOf library t (Changed made stands) = IsMadeFor library stands made

-- TRANS of what REFL proves and a theorem, and of a theorem and what REFL proves
abbrev pub from_refl : Theory → NamedTerm → Theorem → Result Theorem Fault
from_refl theory t next = refl_outcome theory t >>= λ same. trans_outcome theory same next

abbrev pub to_refl : Theory → Theorem → NamedTerm → Result Theorem Fault
to_refl theory first right = refl_outcome theory right >>= λ same. trans_outcome theory first same

-- another theorem is the recorder's
abbrev pub IsHeldIn : Library → Converted → Type 0
IsHeldIn library Same = Unit {0}
IsHeldIn library (Changed made stands) = IsMade library.recorder made

-- it is a library still, its journal alone has grown, and what is answered is an answer on the term
pub record MakesAnswer (old new : Library) (t : NamedTerm) (result : Result Converted Fault) : Type 0 where
  pub library : IsLibrary new
  pub continued : IsContinued old new
  pub made : IfOk result (IsAnswerOf new t)
