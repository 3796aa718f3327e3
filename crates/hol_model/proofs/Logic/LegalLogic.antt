-- The logical definitions are legal, by computation.
use Rattle.std.proofs.Common.{refl}
use Rattle.hol_model.specs.Logic.Theory.{IsLegal}
use Rattle.hol_model.specs.Logic.Logic.{logical_definitions}
use Rattle.hol_model.proofs.Logic.Checks.{is_legal-Decides}

pub logical_definitions-IsLegal : IsLegal logical_definitions
logical_definitions-IsLegal = (is_legal-Decides logical_definitions).0 refl
