-- Justifications of few lines are not too deep.
use Rattle.std.proofs.Common.{◌≡◌, ◌<◌, ◌≤◌, ◌+◌, ℕ, max, true, refl, ◌∙◌, ap, subst, inl, inr, Result, Ok, Err, IfOk, IfErr, arith}
use Rattle.std.proofs.Math.Nat.{max-le}
use Rattle.std.proofs.lemmas.Bool.{leb-true, leb-false}
use Rattle.hol_model.specs.declared.fault.Fault.{Fault}
use Rattle.hol_model.specs.declared.fault.Fault.TheVariants.{Memory}
use Rattle.hol_model.specs.declared.limits.TheConstants.{JUSTIFICATION_DEPTH_LIMIT}
use Rattle.hol_model.specs.Derived.InferenceRules.{InferenceRule}
use Rattle.hol_model.specs.Goals.Justifications.{Justification, by_rule, no_parts}
use Rattle.hol_model.specs.Refining.Refiners.{one_part, two_parts, three_parts}
use Rattle.hol_just.specs.declared.just.Just.{Just}
use Rattle.hol_just.specs.Steps.{tree_of, IsRefused}
use Rattle.hol_model.specs.Goals.Replays.{depth}
use Rattle.hol_refine.specs.TableAnswers.{Makes, is_shallow}

refused-low : (tree : Justification) (fault : Fault) → depth tree ≤ 11 → IsRefused tree fault → fault ≡ Memory
refused-low tree fault low (inl memory) = memory
refused-low tree fault low (inr large) = absurd (above (depth tree) low (leb-false (depth tree) JUSTIFICATION_DEPTH_LIMIT large.1))
  where
    above : (n : ℕ) → n ≤ 11 → JUSTIFICATION_DEPTH_LIMIT < n → ⊥
    above n low high = omega arith

drawn : (whole tree : Justification) (result : Result Just Fault) → depth tree ≤ 11 → whole ≡ tree → IfOk result (λ made. tree_of made ≡ whole)
    → IfErr result (IsRefused whole) → Makes result tree
drawn whole tree (Ok made) low same ok err = ok ∙ same
drawn whole tree (Err fault) low same ok err = refused-low tree fault low (subst (λ (t : Justification). IsRefused t fault) same err)

-- what a call makes, or that there is no memory
pub made : (tree : Justification) (result : Result Just Fault) → IfOk result (λ just. tree_of just ≡ tree) → IfErr result (λ fault. fault ≡ Memory) → Makes result tree
made tree (Ok just) ok err = ok
made tree (Err fault) ok err = err

low-suc : (n : ℕ) → n ≤ 10 → n + 1 ≤ 11
low-suc n low = omega arith

pub none_drawn : (rule : InferenceRule) (result : Result Just Fault) → IfOk result (λ made. tree_of made ≡ by_rule rule no_parts)
    → IfErr result (IsRefused (by_rule rule no_parts)) → Makes result (by_rule rule no_parts)
none_drawn rule result ok err = drawn (by_rule rule no_parts) (by_rule rule no_parts) result (low-suc 0 (omega arith)) refl ok err

pub one_drawn : (rule : InferenceRule) (s t : Justification) (result : Result Just Fault) → IfOk result (λ made. tree_of made ≡ by_rule rule (one_part s))
    → IfErr result (IsRefused (by_rule rule (one_part s))) → s ≡ t → is_shallow t ≡ true → Makes result (by_rule rule (one_part t))
one_drawn rule s t result ok err same shallow =
    drawn (by_rule rule (one_part s)) (by_rule rule (one_part t)) result
    (low-suc (max (depth t) 0) (max-le (leb-true (depth t) 10 shallow) (omega arith))) (ap (λ p. by_rule rule (one_part p)) same) ok err

pub two_drawn : (rule : InferenceRule) (s r t u : Justification) (result : Result Just Fault) → IfOk result (λ made. tree_of made ≡ by_rule rule (two_parts s r))
    → IfErr result (IsRefused (by_rule rule (two_parts s r))) → s ≡ t → r ≡ u → is_shallow t ≡ true → is_shallow u ≡ true → Makes result (by_rule rule (two_parts t u))
two_drawn rule s r t u result ok err same same2 shallow shallow2 =
    drawn (by_rule rule (two_parts s r)) (by_rule rule (two_parts t u)) result
    (low-suc (max (depth t) (max (depth u) 0)) (max-le (leb-true (depth t) 10 shallow) (max-le (leb-true (depth u) 10 shallow2) (omega arith))))
    (λ i. by_rule rule (two_parts (same i) (same2 i))) ok err

pub three_drawn : (rule : InferenceRule) (s r q t u v : Justification) (result : Result Just Fault) → IfOk result (λ made. tree_of made ≡ by_rule rule (three_parts s r q))
    → IfErr result (IsRefused (by_rule rule (three_parts s r q))) → s ≡ t → r ≡ u → q ≡ v → is_shallow t ≡ true → is_shallow u ≡ true → is_shallow v ≡ true
    → Makes result (by_rule rule (three_parts t u v))
three_drawn rule s r q t u v result ok err same same2 same3 shallow shallow2 shallow3 =
    drawn (by_rule rule (three_parts s r q)) (by_rule rule (three_parts t u v)) result
    (low-suc (max (depth t) (max (depth u) (max (depth v) 0)))
    (max-le (leb-true (depth t) 10 shallow) (max-le (leb-true (depth u) 10 shallow2) (max-le (leb-true (depth v) 10 shallow3) (omega arith)))))
    (λ i. by_rule rule (three_parts (same i) (same2 i) (same3 i))) ok err
