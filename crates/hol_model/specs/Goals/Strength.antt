-- When a sequent is as strong as another. Hypotheses are a set: two lists with the same members stand for one.
use Rattle.std.specs.Prelude.{◌≡◌, List, [], ◌∷◌, Option, Some, None}
use Rattle.hol_model.specs.Terms.Nameless.{Nameless}
use Rattle.hol_model.specs.Logic.Derivable.{IsMember}
use Rattle.hol_model.specs.Goals.Goals.{Sequent}

-- each member of the first list is one of the second
abbrev pub Includes : List Nameless → List Nameless → Type 0
Includes fewer more = (term : Nameless) → IsMember term fewer → IsMember term more

-- the same conclusion, from no other hypotheses
pub record IsAsStrong (strong weak : Sequent) : Type 0 where
  pub same_conclusion : strong.conclusion ≡ weak.conclusion
  pub no_more_hypotheses : Includes strong.hypotheses weak.hypotheses

-- one by one as strong
abbrev pub AreAsStrong : List Sequent → List Sequent → Type 0
AreAsStrong [] [] = Unit {0}
AreAsStrong (strong ∷ strongs) (weak ∷ weaks) = IsAsStrong strong weak × AreAsStrong strongs weaks
AreAsStrong _ _ = ⊥

-- there is a first sequent wherever there is a second, and it is as strong
abbrev pub AnswersAsStrong : Option Sequent → Option Sequent → Type 0
AnswersAsStrong strong None = Unit {0}
AnswersAsStrong None (Some weak) = ⊥
AnswersAsStrong (Some strong) (Some weak) = IsAsStrong strong weak
