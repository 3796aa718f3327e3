-- Sequents and replacements within the limits.
use Rattle.std.specs.Prelude.{◌≡◌, Bool, true, ◌&&◌}
use Rattle.hol_model.specs.Terms.HolType.{HolType}
use Rattle.hol_model.specs.Terms.NamedTerm.{NamedTerm, type_fits, is_within_limits}
use Rattle.hol_model.specs.Terms.Nameless.{image}
use Rattle.hol_model.specs.Terms.Measures.{nameless_within_limits}
use Rattle.hol_model.specs.Kernel.Theorem.{Theorem}
use Rattle.hol_model.specs.Logs.LogFaults.{sequent_fits}
use Rattle.hol_journal.specs.Steps.{sequent_of_theorem}

-- the image of the term is within the limits
abbrev pub fits_log : NamedTerm → Bool
fits_log term = nameless_within_limits (image term)

-- the images of the theorem's terms are within the limits
abbrev pub FitsLog : Theorem → Type 0
FitsLog theorem = sequent_fits (sequent_of_theorem theorem) ≡ true

-- both terms, both types of a replacement are within the limits

abbrev pub pair_fits : NamedTerm × NamedTerm → Bool
pair_fits pair = is_within_limits pair.0 && is_within_limits pair.1

abbrev pub type_pair_fits : HolType × HolType → Bool
type_pair_fits pair = type_fits pair.0 && type_fits pair.1
