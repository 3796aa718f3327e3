-- What an outcome says of what a call answers.
use Rattle.std.proofs.Common.{◌≡◌, inl, inr, [], ◌∷◌, Bool, true, false, sym, IfErr, Ok, Err, lit<}
use Rattle.std.specs.Prelude.{Contains, Result}
use Rattle.hol_model.specs.declared.fault.Fault.{Fault}
use Rattle.hol_model.specs.declared.fault.Fault.TheVariants.{Memory}
use Rattle.hol_model.specs.Kernel.Outcome.{Answers, unless}

module _ {T : Type 0} where
  -- the refusals of a call that makes one test
  pub refused_by_test : (r : Result T Fault) (passes : Bool) (refusal : Fault) (value : T) → Answers r (unless passes refusal (Ok value))
      → IfErr r (Contains (refusal ∷ Memory ∷ []))
  refused_by_test (Ok x) passes refusal value answered = tt
  refused_by_test (Err fault) passes refusal value (inl is) = (1, lit< tt, sym is)
  refused_by_test (Err fault) true refusal value (inr is) = cc
  refused_by_test (Err fault) false refusal value (inr is) = (0, lit< tt, cc)

  -- what passes a test is answered
  pub passed_value : (passes : Bool) (refusal : Fault) (value answer : T) → unless passes refusal (Ok value) ≡ Ok answer → answer ≡ value
  passed_value true refusal value answer is = cc
  passed_value false refusal value answer is = cc

pub ruleset outcomes = (refused_by_test)
