-- ORELSEC as a loop: what the others answer behind a refusal decides what the whole answers.
use Rattle.std.proofs.Common.{◌≡◌, ℕ, true, false, Result, Ok, Err}
use Rattle.hol_model.specs.declared.fault.Fault.{Fault}
use Rattle.hol_model.specs.Terms.NamedTerm.{NamedTerm}
use Rattle.hol_model.specs.Logic.Theory.{Theory}
use Rattle.hol_model.specs.Kernel.Theorem.{Theorem}
use Rattle.hol_model.specs.Goals.Replays.{Store}
use Rattle.hol_model.specs.Refining.HostFunctions.{HostConversions}
use Rattle.hol_model.specs.Refining.Conversions.{Conversion, Conversions, no_more, more, orelsec, Converts, is_caught, first_answers, first_is_not_caught, last_is_refused, first_is_caught}

module _ (theory : Theory) (store : Store) (hosts : HostConversions) (depth : ℕ) where
  -- some conversion was refused so, and these stand behind it
  pub record ChoosesSoFar (first : ℕ) (whole : Conversion) (t : NamedTerm) (steps : ℕ) (fault : Fault) (rest : Conversions) : Type 0 where
    pub before : ℕ
    pub refused : Conversion
    pub refuses : Converts theory store hosts depth before refused t (Err fault) steps
    pub decides : (answer : Result Theorem Fault) (left : ℕ) → Converts theory store hosts depth before (orelsec refused rest) t answer left
        → Converts theory store hosts depth first whole t answer left

  pub chooses_next : {first steps left : ℕ} {whole c : Conversion} {cs : Conversions} {t : NamedTerm} {fault next : Fault} → ChoosesSoFar first whole t steps fault (more c cs)
      → is_caught fault ≡ true → Converts theory store hosts depth steps c t (Err next) left → ChoosesSoFar first whole t left next cs
  chooses_next {steps} {c} so_far caught r = record {
    before = steps;
    refused = c;
    refuses = r;
    decides = λ answer left s. so_far.decides answer left (first_is_caught so_far.refuses caught s);
  }

  pub chooses_answer : {first steps left : ℕ} {whole c : Conversion} {cs : Conversions} {t : NamedTerm} {fault : Fault} {theorem : Theorem} → ChoosesSoFar first whole t steps fault (more c cs)
      → is_caught fault ≡ true → Converts theory store hosts depth steps c t (Ok theorem) left → Converts theory store hosts depth first whole t (Ok theorem) left
  chooses_answer {left} {theorem} so_far caught r = so_far.decides (Ok theorem) left (first_is_caught so_far.refuses caught (first_answers r))

  pub chooses_stop : {first steps : ℕ} {whole : Conversion} {cs : Conversions} {t : NamedTerm} {fault : Fault} → ChoosesSoFar first whole t steps fault cs → is_caught fault ≡ false
      → Converts theory store hosts depth first whole t (Err fault) steps
  chooses_stop {steps} {fault} so_far passes = so_far.decides (Err fault) steps (first_is_not_caught so_far.refuses passes)

  pub chooses_end : {first steps : ℕ} {whole : Conversion} {t : NamedTerm} {fault : Fault} → ChoosesSoFar first whole t steps fault no_more
      → Converts theory store hosts depth first whole t (Err fault) steps
  chooses_end {steps} {fault} so_far = so_far.decides (Err fault) steps (last_is_refused so_far.refuses)
