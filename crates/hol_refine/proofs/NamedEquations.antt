-- The rules of theorems are equations.
use Rattle.std.proofs.Common.{ℕ, List, [], ◌∷◌, ◌++◌, sym, subst, Ok}
use Rattle.hol_model.specs.Kernel.Theorem.{Theorem}
use Rattle.hol_model.specs.Goals.Replays.{Store}
use Rattle.hol_model.specs.Refining.Refiners.{AnswersAllRules}
use Rattle.hol_journal.specs.Journal.{Recorded}
use Rattle.hol_prelude_derivations.specs.Derivations.{theorems}
use Rattle.hol_rewrite.specs.RuleSides.{AreEquations}
use Rattle.hol_rewrite.proofs.RuleEquations.{rules-are-equations, equations-append}
use Rattle.hol_refine.specs.Answers.{AreNamedRules}

all-are-equations : (all rules : List Theorem) → AnswersAllRules all (Ok rules) → AreEquations rules
all-are-equations [] rules none = subst AreEquations (sym none) tt
all-are-equations (theorem ∷ others) rules (first, rest, one, two, is) =
    subst AreEquations (sym is) (equations-append first rest (rules-are-equations theorem first one) (all-are-equations others rest two))

pub named-are-equations : (store : Store) (names : List (List ℕ)) (rules : List Theorem) → AreNamedRules store names rules → AreEquations rules
named-are-equations store names rules are = all-are-equations are.found rules are.are_rules
