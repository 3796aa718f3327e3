-- By which laws the fact of a formula follows from those of its sides.
use Rattle.std.specs.Prelude.{◌≡◌, Bool, true, false, Option, Some, None}
use Rattle.hol_model.specs.Terms.HolType.{bool_type}
use Rattle.hol_model.specs.Terms.NamedTerm.{NamedTerm}
use Rattle.hol_model.specs.Terms.Nameless.{Nameless, image}
use Rattle.hol_model.specs.Logic.Theory.{Theory}
use Rattle.hol_model.specs.Logic.NamelessLogic.{disjunction}
use Rattle.hol_model.specs.Logic.Logic as nameless
use Rattle.hol_model.specs.Logic.Derivable.{nameless_equation}
use Rattle.hol_bool.specs.PreludeInstances.{at_p_q}
use Rattle.hol_equal.specs.Formulas.{IsFormula}
use Rattle.hol_equal.specs.Room.{Room, IsSized}
use Rattle.hol_model.specs.Rewrites.SmallTerms.{SMALL_HEIGHT, SMALL_NODES}
use Rattle.hol_taut_formulas.specs.declared.law.Law.{Law}
use Rattle.hol_taut.specs.LawSteps.{LeadsTo}
use Rattle.hol_taut_formulas.specs.declared.law.Law.TheVariants.{AndFalseLeft, AndFalseRight, Conj, Disj1, Disj2, IffFalseLeft, IffTrueLeft, IffTrueRight, ImpFalseLeft, ImpTrueRight, Mp, OrFalseLeft}
use Rattle.hol_model.specs.Propositional.Propositions.{Connective}
use Rattle.hol_model.specs.Propositional.Propositions.{And, Or, Implies, Iff}
use Rattle.hol_model.specs.Propositional.Connectives.{connected_term, equation_of, fact}
use Rattle.hol_taut.specs.declared.way.Way.{Way}
use Rattle.hol_taut.specs.declared.way.Way.TheVariants.{Left, Right, Equation, Chain, ChainFromRight, Same}

-- the formula without bound names
abbrev pub connected_image : Connective → Nameless → Nameless → Nameless
connected_image And p q = nameless.conjunction p q
connected_image Or p q = disjunction p q
connected_image Implies p q = nameless.implication p q
connected_image Iff p q = nameless_equation bool_type p q

-- where there is room, the term is small
abbrev pub IsSmallIf : Room → Nameless → Type 0
IsSmallIf room term = room ≡ true → IsSized SMALL_HEIGHT SMALL_NODES term

-- at any two formulas, the law leads from one formula of them to the other
pub record Leads (connective : Connective) (law : Law) (from to : Nameless → Nameless → Nameless) : Type 0 where
  pub leads : (theory : Theory) (p q : NamedTerm) → IsFormula theory p → IsFormula theory q → (room : Room) → IsSmallIf room (image (connected_term connective p q))
      → LeadsTo theory law (at_p_q p q) room (from (image p) (image q)) (to (image p) (image q))

-- the formula of this value follows in this way from sides of these values
abbrev pub IsWay : Connective → Bool → Option Bool → Option Bool → Way → Type 0
IsWay connective value left right (Left law of) = (left ≡ Some of) × Leads connective law (λ p q. fact of p) (λ p q. fact value (connected_image connective p q))
IsWay connective value left right (Right law of) = (right ≡ Some of) × Leads connective law (λ p q. fact of q) (λ p q. fact value (connected_image connective p q))
IsWay connective value left right (Equation law of other) =
    (left ≡ Some of) × (right ≡ Some other) × Leads connective law (λ p q. fact of p) (λ p q. equation_of (fact other q) (fact value (connected_image connective p q)))
IsWay connective value left right (Chain law of) =
    (left ≡ Some of) × (right ≡ Some false) × (value ≡ false) × Leads connective law (λ p q. fact of p) (λ p q. equation_of (connected_image connective p q) q)
IsWay connective value left right (ChainFromRight law) =
    (left ≡ Some false) × (right ≡ Some true) × (value ≡ false) × Leads connective law (λ p q. fact true q) (λ p q. equation_of (connected_image connective p q) p)
IsWay connective value left right Same = (left ≡ Some true) × (right ≡ Some true) × (value ≡ true) × (connective ≡ Iff)

-- the way that is taken
abbrev pub the_way : Connective → Bool → Option Bool → Option Bool → Way
the_way And true left right = Equation Conj true true
the_way And false (Some false) right = Left AndFalseLeft false
the_way And false (Some true) right = Right AndFalseRight false
the_way And false None right = Right AndFalseRight false
the_way Or false left right = Chain OrFalseLeft false
the_way Or true (Some true) right = Left Disj1 true
the_way Or true (Some false) right = Right Disj2 true
the_way Or true None right = Right Disj2 true
the_way Implies false left right = Chain Mp true
the_way Implies true (Some false) right = Left ImpFalseLeft false
the_way Implies true (Some true) right = Right ImpTrueRight true
the_way Implies true None right = Right ImpTrueRight true
the_way Iff value (Some true) (Some true) = Same
the_way Iff value (Some true) (Some false) = Chain IffTrueLeft true
the_way Iff value (Some true) None = Chain IffTrueLeft true
the_way Iff value (Some false) (Some true) = ChainFromRight IffTrueRight
the_way Iff value None (Some true) = ChainFromRight IffTrueRight
the_way Iff value (Some false) (Some false) = Equation IffFalseLeft false false
the_way Iff value (Some false) None = Equation IffFalseLeft false false
the_way Iff value None (Some false) = Equation IffFalseLeft false false
the_way Iff value None None = Equation IffFalseLeft false false
