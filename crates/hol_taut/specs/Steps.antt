-- What steps on theorems with allowed hypotheses answer.
use Rattle.std.specs.Prelude.{◌≡◌, List, ◌∷◌, Bool, false, not, Option, Result}
use Rattle.hol_model.specs.declared.fault.Fault.{Fault}
use Rattle.hol_model.specs.Terms.NamedTerm.{NamedTerm}
use Rattle.hol_model.specs.Terms.Nameless.{Nameless, image}
use Rattle.hol_model.specs.Kernel.Theorem.{Theorem}
use Rattle.hol_model.specs.Logic.Theory.{Theory}
use Rattle.hol_model.specs.Logic.Logic as nameless
use Rattle.hol_model.specs.Logic.NamedLogic.{negation}
use Rattle.hol_model.specs.Propositional.Connectives.{equation_of, fact}
use Rattle.hol_journal.specs.Journal.{Recorded}
use Rattle.hol_equal.specs.Room.{Room, FitsIf}
use Rattle.hol_bool.specs.PreludeInstances.{at_p_q}
use Rattle.hol_taut_formulas.specs.declared.law.Law.{Law}
use Rattle.hol_taut.specs.declared.facts.Facts.{Facts}
use Rattle.hol_taut.specs.declared.way.Way.{Way}
use Rattle.hol_taut.specs.FactLists.{AreProved}
use Rattle.hol_taut.specs.LawSteps.{LeadsTo}
use Rattle.hol_taut.specs.Proved.{Proves, ProvesIf}
use Rattle.hol_taut.specs.Refuted.{AreAllSmall}
use Rattle.hol_taut.specs.Shown.{LeadsBy, Joins}
use Rattle.hol_taut.specs.Ways.{IsSmallIf}

-- from a law's hypothesis at two formulas, its conclusion there
abbrev pub LawProves : Theory → Law → NamedTerm → NamedTerm → Theorem → Result Recorded Fault → Type 0
LawProves theory law p q premise result =
    (allowed : List Nameless) (from to : Nameless) (room : Room) → LeadsTo theory law (at_p_q p q) room from to → Proves premise allowed from → ProvesIf room result allowed to

-- an equation, and its left side
pub record AreOfEquation (first second : Nameless) : Type 0 where
  pub right : Nameless
  pub first_is : first ≡ equation_of second right

-- EQ_MP
abbrev pub EquationProves : Theorem → Theorem → Result Recorded Fault → Type 0
EquationProves first second result =
    (allowed : List Nameless) (p q : Nameless) (room : Room) → Proves first allowed (equation_of p q) → Proves second allowed p → ProvesIf room result allowed q

-- an equation, and one that begins where it ends
pub record AreOfChain (first second : Nameless) : Type 0 where
  pub left : Nameless
  pub middle : Nameless
  pub right : Nameless
  pub first_is : first ≡ equation_of left middle
  pub second_is : second ≡ equation_of middle right

-- TRANS
abbrev pub ChainProves : Theorem → Theorem → Result Recorded Fault → Type 0
ChainProves first second result =
    (allowed : List Nameless) (p q r : Nameless) (room : Room) → FitsIf room (equation_of p r)
    → Proves first allowed (equation_of p q) → Proves second allowed (equation_of q r) → ProvesIf room result allowed (equation_of p r)

-- DEDUCT_ANTISYM_RULE: the other's conclusion need not be allowed
abbrev pub BothProve : Theorem → Theorem → Result Recorded Fault → Type 0
BothProve first second result =
    (allowed : List Nameless) (p q : Nameless) (room : Room) → FitsIf room (equation_of p q)
    → Proves first (q ∷ allowed) p → Proves second (p ∷ allowed) q → ProvesIf room result allowed (equation_of p q)

-- from a theorem of `F`, the falsity of a formula that need not be allowed any more
abbrev pub FalsityDenies : Nameless → Theorem → Result Recorded Fault → Type 0
FalsityDenies p absurd result =
    (allowed : List Nameless) (room : Room) → FitsIf room p → FitsIf room (fact false p)
    → Proves absurd (p ∷ allowed) nameless.false_term → ProvesIf room result allowed (fact false p)

-- the law of a way, from the fact of its first side
abbrev pub FirstProves : Theory → Option Law → NamedTerm → NamedTerm → Theorem → Result Recorded Fault → Type 0
FirstProves theory law left right premise result =
    (allowed : List Nameless) (room : Room) (from to : Nameless) → LeadsBy theory law left right room from to → Proves premise allowed from → ProvesIf room result allowed to

-- the fact of its second side as well
abbrev pub SecondProves : Way → Theorem → Theorem → Result Recorded Fault → Type 0
SecondProves way first second result =
    (allowed : List Nameless) (room : Room) (p q whole : Nameless) → Joins way room p q whole → Proves first allowed p → Proves second allowed q → ProvesIf room result allowed whole

-- the fact of a negation, from that of its part
abbrev pub NegationProves : NamedTerm → Bool → Theorem → Result Recorded Fault → Type 0
NegationProves part value premise result =
    (allowed : List Nameless) (room : Room) → IsSmallIf room (image (negation part))
    → Proves premise allowed (fact (not value) (image part)) → ProvesIf room result allowed (fact value (image (negation part)))

-- `F`, from the denial of a formula and facts of atoms
abbrev pub DenialRefutes : NamedTerm → Theorem → List NamedTerm → Facts → Result Recorded Fault → Type 0
DenialRefutes term denied atoms facts result =
    (allowed : List Nameless) (room : Room) → Proves denied allowed (fact false (image term)) → AreProved allowed facts → IsSmallIf room (image term) → AreAllSmall room atoms
    → ProvesIf room result allowed nameless.false_term
