-- Facts of formulas from facts of their atoms, and the parts of a way: a first side, a law, and a second side.
use Rattle.std.specs.Prelude.{◌≡◌, List, Bool, true, false, Option, Some, None, Result}
use Rattle.hol_model.specs.declared.fault.Fault.{Fault}
use Rattle.hol_model.specs.Terms.NamedTerm.{NamedTerm}
use Rattle.hol_model.specs.Terms.Nameless.{Nameless, image}
use Rattle.hol_model.specs.Logic.Theory.{Theory}
use Rattle.hol_journal.specs.Journal.{Recorded}
use Rattle.hol_bool.specs.PreludeInstances.{at_p_q}
use Rattle.hol_equal.specs.Room.{Room, FitsIf}
use Rattle.hol_taut_formulas.specs.declared.law.Law.{Law}
use Rattle.hol_taut.specs.LawSteps.{LeadsTo}
use Rattle.hol_model.specs.Propositional.Connectives.{equation_of, fact}
use Rattle.hol_taut.specs.FactLists.{AreProved}
use Rattle.hol_taut.specs.Proved.{ProvesIf}
use Rattle.hol_taut.specs.Ways.{IsSmallIf}
use Rattle.hol_taut.specs.declared.facts.Facts.{Facts}
use Rattle.hol_taut.specs.declared.way.Way.{Way}
use Rattle.hol_taut.specs.declared.way.Way.TheVariants.{Left, Right, Equation, Chain, ChainFromRight, Same}

-- the fact of a formula, from hypotheses that are allowed where the facts' are
abbrev pub ShowsFact : Facts → NamedTerm → Bool → Result Recorded Fault → Type 0
ShowsFact facts term value result =
    (allowed : List Nameless) (room : Room) → AreProved allowed facts → IsSmallIf room (image term) → ProvesIf room result allowed (fact value (image term))

-- ---- the first side

abbrev pub first_side : {A : Type 0} → Way → A → A → A
first_side (Left law of) left right = left
first_side (Right law of) left right = right
first_side (Equation law of other) left right = left
first_side (Chain law of) left right = left
first_side (ChainFromRight law) left right = right
first_side Same left right = left

abbrev pub first_value : Way → Bool
first_value (Left law of) = of
first_value (Right law of) = of
first_value (Equation law of other) = of
first_value (Chain law of) = of
first_value (ChainFromRight law) = true
first_value Same = true

-- ---- the law

abbrev pub law_of : Way → Option Law
law_of (Left law of) = Some law
law_of (Right law of) = Some law
law_of (Equation law of other) = Some law
law_of (Chain law of) = Some law
law_of (ChainFromRight law) = Some law
law_of Same = None

-- at these formulas, the law leads from one term to the other; where there is none, they are one
abbrev pub LeadsBy : Theory → Option Law → NamedTerm → NamedTerm → Room → Nameless → Nameless → Type 0
LeadsBy theory (Some law) p q room from to = LeadsTo theory law (at_p_q p q) room from to
LeadsBy theory None p q room from to = from ≡ to

-- at these formulas, the law leads on from the term; no room is asked for, so that nothing has to fit
pub record LeadsOn (theory : Theory) (law : Option Law) (left right : NamedTerm) (from : Nameless) : Type 0 where
  pub to : Nameless
  pub leads : LeadsBy theory law left right false from to

-- ---- the second side

abbrev pub takes_second : Way → Bool
takes_second (Left law of) = false
takes_second (Right law of) = false
takes_second (Equation law of other) = true
takes_second (Chain law of) = true
takes_second (ChainFromRight law) = true
takes_second Same = true

abbrev pub second_side : {A : Type 0} → Way → A → A → A
second_side (Left law of) left right = right
second_side (Right law of) left right = left
second_side (Equation law of other) left right = right
second_side (Chain law of) left right = right
second_side (ChainFromRight law) left right = left
second_side Same left right = right

abbrev pub second_value : Way → Bool
second_value (Left law of) = true
second_value (Right law of) = true
second_value (Equation law of other) = other
second_value (Chain law of) = false
second_value (ChainFromRight law) = false
second_value Same = true

-- two equations make the third
pub record IsChain (room : Room) (first second whole : Nameless) : Type 0 where
  pub left : Nameless
  pub middle : Nameless
  pub right : Nameless
  pub first_is : first ≡ equation_of left middle
  pub second_is : second ≡ equation_of middle right
  pub whole_is : whole ≡ equation_of left right
  pub fits : FitsIf room (equation_of left right)

-- the equation of two formulas
pub record IsOfBoth (room : Room) (first second whole : Nameless) : Type 0 where
  pub whole_is : whole ≡ equation_of first second
  pub fits : FitsIf room (equation_of first second)

-- what the law gives and the second side's fact make the whole
abbrev pub Joins : Way → Room → Nameless → Nameless → Nameless → Type 0
Joins (Left law of) room first second whole = ⊥
Joins (Right law of) room first second whole = ⊥
Joins (Equation law of other) room first second whole = first ≡ equation_of second whole
Joins (Chain law of) room first second whole = IsChain room first second whole
Joins (ChainFromRight law) room first second whole = IsChain room first second whole
Joins Same room first second whole = IsOfBoth room first second whole

-- they make a whole, of whatever size
pub record IsJoined (way : Way) (first second : Nameless) : Type 0 where
  pub whole : Nameless
  pub joins : Joins way false first second whole
