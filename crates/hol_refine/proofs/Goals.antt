-- Stated goals, and the goals that they state.
use Rattle.std.proofs.Common.{◌≡◌, List, [], ◌∷◌, ◌++◌, map, refl, sym, subst, Result, Ok, Err, IfOk}
use Rattle.hol_model.specs.declared.fault.Fault.{Fault}
use Rattle.hol_model.specs.Terms.NamedTerm.{NamedTerm}
use Rattle.hol_model.specs.Derived.DerivedRules.{Conclusion, named, IsConclusion}
use Rattle.hol_model.specs.Refining.Refiners.{AreConclusions, from_assumptions}
use Rattle.hol_model.specs.Goals.Goals.{Goal}
use Rattle.hol_just.specs.declared.goal.Goal as code_goal
use Rattle.hol_just.specs.Steps.{goal_of}
use Rattle.hol_refine.specs.TableAnswers.{IsGoal}

named-none : (terms : List NamedTerm) → AreConclusions (map named terms ++ []) terms
named-none [] = tt
named-none (term ∷ terms) = (refl, named-none terms)

named-more : (terms : List NamedTerm) (c : Conclusion) (t : NamedTerm) → IsConclusion c t → AreConclusions (map named terms ++ c ∷ []) (terms ++ t ∷ [])
named-more [] c t is = (is, tt)
named-more (term ∷ terms) c t is = (refl, named-more terms c t is)

pub with_target : (assumptions : List NamedTerm) (target : NamedTerm) (c : Conclusion) → IsConclusion c target
    → IsGoal (from_assumptions assumptions [] c) (record { assumptions = assumptions; target = target })
with_target assumptions target c is = record { assumptions = named-none assumptions; target = is }

pub with_assumption : (assumptions : List NamedTerm) (added target : NamedTerm) (c d : Conclusion) → IsConclusion c added → IsConclusion d target
    → IsGoal (from_assumptions assumptions (c ∷ []) d) (record { assumptions = assumptions ++ added ∷ []; target = target })
with_assumption assumptions added target c d is_added is = record { assumptions = named-more assumptions c added is_added; target = is }

-- the same of a call that makes the goal
pub toward_made : (result : Result code_goal.Goal Fault) (assumptions : List NamedTerm) (target : NamedTerm)
    → IfOk result (λ made. goal_of made ≡ record { assumptions = assumptions; target = target })
    → IfOk result (λ made. (c : Conclusion) → IsConclusion c target → IsGoal (from_assumptions assumptions [] c) (goal_of made))
toward_made (Ok made) assumptions target is = λ c conclusion.
    subst (λ (goal : Goal). IsGoal (from_assumptions assumptions [] c) goal) (sym is) (with_target assumptions target c conclusion)
toward_made (Err fault) assumptions target is = is

-- and of one that adds an assumption to it
pub assuming_made : (assumptions asms : List NamedTerm) (target added copy concl : NamedTerm)
    → ◌≡◌ {A = Goal} (record { assumptions = asms; target = concl }) (record { assumptions = assumptions; target = target })
    → copy ≡ added → (c d : Conclusion) → IsConclusion c added → IsConclusion d target
    → IsGoal (from_assumptions assumptions (c ∷ []) d) (record { assumptions = asms ++ copy ∷ []; target = concl })
assuming_made assumptions asms target added copy concl is copy_is c d is_added is_target =
    subst (λ (goal : Goal). IsGoal (from_assumptions assumptions (c ∷ []) d) (record { assumptions = goal.assumptions ++ copy ∷ []; target = goal.target })) (sym is)
    (subst (λ (t : NamedTerm). IsGoal (from_assumptions assumptions (c ∷ []) d) (record { assumptions = assumptions ++ t ∷ []; target = target })) (sym copy_is)
    (with_assumption assumptions added target c d is_added is_target))
