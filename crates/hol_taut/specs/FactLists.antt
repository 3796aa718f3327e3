-- Facts of atoms, and the values of formulas that they tell.
use Rattle.std.specs.Prelude.{◌≡◌, List, Bool, true, false, not, Option, Some, None, if◌then◌else◌}
use Rattle.std.specs.Option.{option_map}
use Rattle.hol_model.specs.Terms.NamedTerm.{NamedTerm}
use Rattle.hol_model.specs.Terms.Nameless.{Nameless, image}
use Rattle.hol_journal.specs.Journal.{Journal}
use Rattle.hol_model.specs.Kernel.Theorem.{Theorem}
use Rattle.hol_journal.specs.Growth.{IsHeld}
use Rattle.hol_model.specs.Propositional.Propositions.{Connective}
use Rattle.hol_model.specs.Propositional.Propositions.{And, Or, Implies, Iff}
use Rattle.hol_taut.specs.declared.facts.Facts.{Facts, Nothing, Fact'}
use Rattle.hol_model.specs.Propositional.Connectives.{fact}
use Rattle.hol_taut.specs.Proved.{Proves}
use Rattle.hol_model.specs.Propositional.Propositions.{Proposition, atom, constantly, negated, connected, truth_table}
use Rattle.hol_model.specs.Kernel.Theorem.{are_alpha_equivalent}

-- the value of an atom, where a fact tells it
abbrev pub value_of : Facts → NamedTerm → Option Bool
value_of Nothing term = None
value_of (Fact' known value theorem p earlier) term = if are_alpha_equivalent known.now term then Some value else value_of earlier term

-- the value of a connective, where the values of its sides tell it
abbrev pub known_table : Connective → Option Bool → Option Bool → Option Bool
known_table And (Some false) q = Some false
known_table And (Some true) q = q
known_table And None (Some false) = Some false
known_table And None (Some true) = None
known_table And None None = None
known_table Or (Some true) q = Some true
known_table Or (Some false) q = q
known_table Or None (Some true) = Some true
known_table Or None (Some false) = None
known_table Or None None = None
known_table Implies (Some false) q = Some true
known_table Implies (Some true) q = q
known_table Implies None (Some true) = Some true
known_table Implies None (Some false) = None
known_table Implies None None = None
known_table Iff (Some p) (Some q) = Some (truth_table Iff p q)
known_table Iff (Some p) None = None
known_table Iff None q = None

-- the value of a formula, where the values of its atoms tell it
abbrev pub known_by : (NamedTerm → Option Bool) → Proposition → Option Bool
known_by value (atom term) = value term
known_by value (constantly b) = Some b
known_by value (negated part) = option_map not (known_by value part)
known_by value (connected connective left right) = known_table connective (known_by value left) (known_by value right)

-- the recorder made the facts' theorems over its theory
abbrev pub AreHeld : Journal → Facts → Type 0
AreHeld journal Nothing = Unit {0}
AreHeld journal (Fact' known value theorem p earlier) = IsHeld journal theorem.now × AreHeld journal earlier

-- the theorems say what the facts are, from hypotheses that are allowed
abbrev pub AreProved : List Nameless → Facts → Type 0
AreProved allowed Nothing = Unit {0}
AreProved allowed (Fact' known value theorem p earlier) = Proves theorem.now.theorem allowed (fact value (image known.now)) × AreProved allowed earlier

-- from some hypotheses, the theorems say what the facts are
pub record AreConcluded (facts : Facts) : Type 0 where
  pub allowed : List Nameless
  pub proved : AreProved allowed facts

-- the theorem is of the fact of an atom
abbrev pub IsOfFact : List Nameless → Facts → NamedTerm → Theorem → Type 0
IsOfFact allowed facts term theorem = (value : Bool) → value_of facts term ≡ Some value → Proves theorem allowed (fact value (image term))
