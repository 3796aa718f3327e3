-- The checker's answer for a log that is accepted.
use Rattle.std.proofs.Common.{◌≡◌, ℕ, ap, ◌∙◌, Ok, Err, arith}
use Rattle.hol_model.specs.declared.fault.Cause.{Cause}
use Rattle.hol_model.specs.Logs.LogState.{LogState}
use Rattle.hol_model.specs.Logs.LogText.{LogOutcome}
use Rattle.hol_check.specs.LogAnswers.{log_answer}
use Rattle.holp_commands.specs.LogsChecked.{LogsAreChecked}

same_state : (outcome : LogOutcome) (first second : LogState) → outcome ≡ Ok first → outcome ≡ Ok second → first ≡ second
same_state outcome first second is other = cc

never_both : (outcome : LogOutcome) (state : LogState) (refusal : ℕ × Cause) → outcome ≡ Ok state → outcome ≡ Err refusal → ⊥
never_both outcome state refusal is other = cc

pub logs_are_checked : LogsAreChecked
logs_are_checked = record {
  claims = λ claims answered log journal is has.
      let same : log_answer log ≡ Ok has.state = ap log_answer has.read.whole ∙ has.accepted in
      has.listed ∙ ap (λ (state : LogState). state.claims) (same_state (log_answer log) has.state is.state same is.accepted) ∙ is.claimed;
  no_refusal = λ claims log line cause journal is refused.
      never_both (log_answer log) is.state (line, cause) is.accepted (ap log_answer refused.read.whole ∙ refused.refused);
  within_limit = λ claims log journal is longer. absurd (omega (arith, is.within_limit, longer));
}
