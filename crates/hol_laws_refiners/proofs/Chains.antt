-- Chains as loops: what is left of a chain decides what the whole answers.
use Rattle.std.proofs.Common.{ℕ, Result, Ok}
use Rattle.hol_model.specs.declared.fault.Fault.{Fault}
use Rattle.hol_model.specs.Terms.NamedTerm.{NamedTerm}
use Rattle.hol_model.specs.Logic.Theory.{Theory}
use Rattle.hol_model.specs.Kernel.Theorem.{Theorem}
use Rattle.hol_model.specs.Goals.Replays.{Store}
use Rattle.hol_model.specs.Refining.HostFunctions.{HostConversions}
use Rattle.hol_model.specs.Refining.Conversions as conv
use Rattle.hol_model.specs.Refining.Conversions.{Conversion, Conversions, Converts, ConvertsOn}

module _ (theory : Theory) (store : Store) (hosts : HostConversions) (depth : ℕ) where
  -- c THENC ..: what the rest answers on from the theorem so far is what the chain answers on the term
  pub record ThencSoFar (first : ℕ) (whole : Conversion) (t : NamedTerm) (steps : ℕ) (theorem : Theorem) (rest : Conversions) : Type 0 where
    pub decides : (answer : Result Theorem Fault) (left : ℕ) → ConvertsOn theory store hosts depth steps theorem rest answer left
        → Converts theory store hosts depth first whole t answer left

  pub thenc_start : (first steps : ℕ) (c : Conversion) (cs : Conversions) (t : NamedTerm) (theorem : Theorem)
      → Converts theory store hosts depth first c t (Ok theorem) steps → ThencSoFar first (conv.thenc c cs) t steps theorem cs
  thenc_start first steps c cs t theorem r = record { decides = λ answer left s. conv.first_goes_on r s }

  pub thenc_end : (first : ℕ) (whole : Conversion) (t : NamedTerm) (steps : ℕ) (theorem : Theorem) → ThencSoFar first whole t steps theorem conv.no_more
      → Converts theory store hosts depth first whole t (Ok theorem) steps
  thenc_end first whole t steps theorem so_far = so_far.decides (Ok theorem) steps conv.ends
