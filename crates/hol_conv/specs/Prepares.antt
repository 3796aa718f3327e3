-- What making rules before a conversion is tried leaves.
use Rattle.std.specs.Prelude.{List}
use Rattle.hol_theorem_library.specs.Library.{IsLibrary, IsContinued}
use Rattle.hol_theorem_library.specs.declared.library.Library.{Library}
use Rattle.hol_conv.specs.declared.prepared.NamedRules.{NamedRules}
use Rattle.hol_conv.specs.Prepared.{ArePrepared}

-- it is a library still, its journal alone has grown, and the rules are ready for it
pub record Prepares (old new : Library) (prepared : List NamedRules) : Type 0 where
  pub library : IsLibrary new
  pub continued : IsContinued old new
  pub ready : ArePrepared new prepared
