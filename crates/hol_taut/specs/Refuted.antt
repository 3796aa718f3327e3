-- Formulas that are true whatever values their atoms have, and what a split over atoms keeps.
use Rattle.std.specs.Prelude.{◌≡◌, ◌⊎◌, List, Bool, true, false}
use Rattle.std.specs.List.{list_any}
use Rattle.std.specs.Option.{is_some}
use Rattle.hol_model.specs.Logic.Derivable.{IsMember}
use Rattle.hol_model.specs.Terms.NamedTerm.{NamedTerm}
use Rattle.hol_model.specs.Terms.Nameless.{Nameless, image}
use Rattle.hol_model.specs.Logic.Theory.{Theory}
use Rattle.hol_equal.specs.Formulas.{IsFormula}
use Rattle.hol_equal.specs.Room.{Room}
use Rattle.hol_taut.specs.declared.facts.Facts.{Facts}
use Rattle.hol_taut.specs.FactLists.{value_of, AreProved}
use Rattle.hol_taut.specs.Proved.{Proves}
use Rattle.hol_model.specs.Propositional.Propositions.{Proposition, atom_places, is_true_by}
use Rattle.hol_model.specs.Propositional.Connectives.{fact}
use Rattle.hol_model.specs.Kernel.Theorem.{Theorem, are_alpha_equivalent}
use Rattle.hol_taut.specs.Ways.{IsSmallIf}

-- equal terms up to the names of bound variables have one value
pub record IsByImage (total : NamedTerm → Bool) : Type 0 where
  pub same : (a b : NamedTerm) → image a ≡ image b → total a ≡ total b

-- the formula is true whatever values its atoms have
pub record IsAlwaysTrue (formula : Proposition) : Type 0 where
  pub each : (total : NamedTerm → Bool) → IsByImage total → is_true_by total formula ≡ true

-- a term is one of a list, up to the names of bound variables
abbrev pub is_listed : NamedTerm → List NamedTerm → Bool
is_listed term terms = list_any (are_alpha_equivalent term) terms

-- each atom of the formula has a fact or is listed
pub record AreTold (facts : Facts) (atoms : List NamedTerm) (formula : Proposition) : Type 0 where
  pub each : (place : NamedTerm) → IsMember place (atom_places formula) → (is_some (value_of facts place) ≡ true) ⊎ (is_listed place atoms ≡ true)

-- the listed terms are formulas of the theory
pub record AreAllFormulas (theory : Theory) (atoms : List NamedTerm) : Type 0 where
  pub each : (atom : NamedTerm) → IsMember atom atoms → IsFormula theory atom

-- the listed terms are small where there is room
pub record AreAllSmall (room : Room) (atoms : List NamedTerm) : Type 0 where
  pub each : (atom : NamedTerm) → IsMember atom atoms → IsSmallIf room (image atom)

-- from some hypotheses, a theorem says the denial of the formula, and the facts' theorems what these are
pub record AreGiven (term : NamedTerm) (denied : Theorem) (facts : Facts) : Type 0 where
  pub allowed : List Nameless
  pub denial : Proves denied allowed (fact false (image term))
  pub proved : AreProved allowed facts
