-- Premises that fit up to the names of bound variables, so that a rule has nothing to compare.
use Rattle.std.specs.Prelude.{◌≡◌, []}
use Rattle.hol_model.specs.Terms.HolType.{HolType, bool_type}
use Rattle.hol_model.specs.Terms.Nameless.{Nameless, image}
use Rattle.hol_model.specs.Logic.Derivable.{nameless_equation}
use Rattle.hol_model.specs.Kernel.Theorem.{Theorem, without_hypothesis}

-- an equation, and one that begins where it ends
pub record TransFits (first second : Theorem) : Type 0 where
  pub ty : HolType
  pub left : Nameless
  pub middle : Nameless
  pub right : Nameless
  pub first_is : image first.conclusion ≡ nameless_equation ty left middle
  pub second_is : image second.conclusion ≡ nameless_equation ty middle right

-- an equation of formulas, and its left side
pub record EqMpFits (first second : Theorem) : Type 0 where
  pub right : Nameless
  pub first_is : image first.conclusion ≡ nameless_equation bool_type (image second.conclusion) right

-- a theorem, and one that has no hypothesis but the first one's conclusion
pub record DeductFits (first second : Theorem) : Type 0 where
  pub none_stays : without_hypothesis first.conclusion second.hypotheses ≡ []
