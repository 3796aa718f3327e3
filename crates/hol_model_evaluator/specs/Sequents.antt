-- A sequent in one model.
use Rattle.std.specs.Prelude.{◌≡◌, List}
use Rattle.hol_model.specs.Terms.Nameless.{Nameless}
use Rattle.hol_model.specs.Logic.Theory.{Theory}
use Rattle.hol_model.specs.Models.Values.{truth}
use Rattle.hol_model.specs.Models.Models.{Model, term_meaning}
use Rattle.hol_model.specs.Models.Holds.{AllTrue}

-- where the hypotheses are true in the model, the conclusion is
abbrev pub HoldsIn : Theory → Model → List Nameless → Nameless → Type 0
HoldsIn theory model hypotheses conclusion = AllTrue theory model hypotheses → term_meaning theory model conclusion ≡ truth
