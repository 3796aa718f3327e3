-- What the steps to a rule state.
use Rattle.std.proofs.Common.{◌≡◌, List, refl, subst, Some, Result, Ok, Err, IfOk}
use Rattle.hol_model.specs.declared.fault.Fault.{Fault}
use Rattle.hol_model.specs.Terms.NamedTerm.{NamedTerm}
use Rattle.hol_model.specs.Terms.Nameless.{Nameless}
use Rattle.hol_model.specs.Logic.NamedLogic.{dest_conjunction}
use Rattle.hol_model.specs.Kernel.Theorem.{Theorem}
use Rattle.hol_model.specs.Derived.DerivedRules.{Stated, AnswersStated, States, named, images, stated, conjunct1_outcome, conjunct2_outcome}
use Rattle.hol_journal.specs.Journal.{Recorded, theorem_in}
use Rattle.hol_rewrite.specs.Rules.{Concludes}

-- a call that answers what is stated

pub stated-ok : (result : Result Recorded Fault) (arguments h : List Nameless) (p : NamedTerm) (outcome : Result Stated Fault) → outcome ≡ stated h p
    → AnswersStated (theorem_in result) arguments outcome
    → IfOk result (λ made. States (record { hypotheses = h; conclusion = named p }) made.theorem)
stated-ok (Ok made) arguments h p outcome is answers = subst (λ (o : Result Stated Fault). AnswersStated (Ok made.theorem) arguments o) is answers
stated-ok (Err fault) arguments h p outcome is answers = tt

pub concludes-ok : (result : Result Recorded Fault) (arguments : List Nameless) (premise : Theorem) (p : NamedTerm) (outcome : Result Stated Fault)
    → outcome ≡ stated (images premise) p → AnswersStated (theorem_in result) arguments outcome
    → IfOk result (λ made. Concludes premise p made.theorem)
concludes-ok result arguments premise p outcome is answers = go result (stated-ok result arguments (images premise) p outcome is answers)
  where
    go : (result : Result Recorded Fault) → IfOk result (λ made. States (record { hypotheses = images premise; conclusion = named p }) made.theorem)
        → IfOk result (λ made. Concludes premise p made.theorem)
    go (Ok made) states = record { same_hypotheses = states.hypotheses; conclusion = states.conclusion }
    go (Err fault) states = tt

pub conjunct1-is : (premise : Theorem) (p q : NamedTerm) → dest_conjunction premise.conclusion ≡ Some (p, q) → conjunct1_outcome premise ≡ stated (images premise) p
conjunct1-is premise p q is = rw is refl

pub conjunct2-is : (premise : Theorem) (p q : NamedTerm) → dest_conjunction premise.conclusion ≡ Some (p, q) → conjunct2_outcome premise ≡ stated (images premise) q
conjunct2-is premise p q is = rw is refl
