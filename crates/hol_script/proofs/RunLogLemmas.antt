-- The claims of a run are the theorems that it printed, and its log is theirs.
use Rattle.std.proofs.Common.{◌≡◌, ℕ, List, [], ◌∷◌, ◌++◌, map, refl, sym, ap, subst, ◌∙◌, inl, inr, Option, None, Some, Ok, Err, Result, lit<, arith}
use Rattle.std.proofs.lemmas.List.{map-append}
use Rattle.std.specs.Prelude.{true, IfErr, Contains}
use Rattle.hol_model.specs.declared.fault.Fault.{Fault}
use Rattle.hol_model.specs.declared.fault.Fault.TheVariants.{Memory, TooLong, WriteFault}
use Rattle.hol_model.specs.Terms.Name.{is_identifier}
use Rattle.hol_model.specs.Logic.Theory.{Theory}
use Rattle.hol_model.specs.Logic.Derivable.{IsMember}
use Rattle.hol_model.specs.Kernel.Theorem.{Theorem}
use Rattle.hol_model.specs.Logs.LogState.{LogClaim}
use Rattle.hol_model_sessions.specs.Script.{requested}
use Rattle.hol_model_sessions.specs.Replies.{NamedTheorem}
use Rattle.hol_model_sessions.specs.ScriptSessions.{State, start, Tools, last_state, theorems_in_turns}
use Rattle.hol_model_sessions.specs.Runs.{Counts, claim_of, claims_of_turns}
use Rattle.hol_model.proofs.Terms.Membership.{of_append}
use Rattle.hol_laws_sessions.proofs.StoredTheorems.{printed-stay}
use Rattle.hol_journal.specs.Steps.{sequent_of_theorem}
use Rattle.hol_journal.specs.Journal.{Journal, Recorded}
use Rattle.hol_journal_log.specs.LogWriting.{Claimed}
use Rattle.hol_journal_log.specs.LogAccepted.{log_claim}
use Rattle.hol_journal_log.specs.Pruning.{HaveIdentifiers}
use Rattle.hol_theorem_store.specs.Store.{stored_of}
use Rattle.hol_script_manager.specs.Session.{theorem_of, stored_claim, stored_claims, IsAcceptedLog, IsLongLog}
use Rattle.hol_script_manager.specs.Managers.{state_of}
use Rattle.hol_script.specs.declared.progress.Progress.{Progress}
use Rattle.hol_script.specs.Runs.{names_of, Finishes}
use Rattle.hol_script.specs.RunLogs.{IsLogOver, claims_stored, claims_listed, theory_of}

-- ---- claims of stored theorems

-- each has one of the names
member-named : (name : List ℕ) (found : Option Recorded) (claim : Claimed) → IsMember claim (stored_claim name found) → claim.name ≡ name
member-named name None claim member = absurd member
member-named name (Some made) claim (inl same) = ap (λ (c : Claimed). c.name) same
member-named name (Some made) claim (inr none) = absurd none

-- ---- claims of printed theorems

-- what is stored under the name of each printed theorem
abbrev Stores : (List ℕ → Option Recorded) → List NamedTheorem → Type 0
Stores stored theorems = (shown : NamedTheorem) → IsMember shown theorems → theorem_of (stored shown.name) ≡ Some shown.theorem

one-claim : (shown : NamedTheorem) (found : Option Recorded) → theorem_of found ≡ Some shown.theorem → map log_claim (stored_claim shown.name found) ≡ claim_of shown ∷ []
one-claim shown None is = cc
one-claim shown (Some made) is =
    let same : made.theorem ≡ shown.theorem = cc in
    ap (λ (t : Theorem). record { name = shown.name; sequent = sequent_of_theorem t } ∷ []) same

claims-printed : (stored : List ℕ → Option Recorded) (theorems : List NamedTheorem) → Stores stored theorems
    → map log_claim (stored_claims stored (map (λ shown. shown.name) theorems)) ≡ map claim_of theorems
claims-printed stored [] stores = refl
claims-printed stored (shown ∷ theorems) stores =
    let others = stored_claims stored (map (λ shown. shown.name) theorems) in
    map-append log_claim (stored_claim shown.name (stored shown.name)) others
    ∙ ap (λ l. l ++ map log_claim others) (one-claim shown (stored shown.name) (stores shown (inl refl)))
    ∙ ap (λ l. claim_of shown ∷ l) (claims-printed stored theorems (λ other member. stores other (inr member)))

claims-named : (stored : List ℕ → Option Recorded) (theorems : List NamedTheorem) → ((shown : NamedTheorem) → IsMember shown theorems → is_identifier shown.name ≡ true)
    → HaveIdentifiers (stored_claims stored (map (λ shown. shown.name) theorems))
claims-named stored [] named' claim member = absurd member
claims-named stored (shown ∷ theorems) named' claim member =
    elim (of_append claim (stored_claim shown.name (stored shown.name)) (stored_claims stored (map (λ shown. shown.name) theorems)) member) [
      | inl here ↦ ap is_identifier (member-named shown.name (stored shown.name) claim here) ∙ named' shown (inl refl)
      | inr further ↦ claims-named stored theorems (λ other is. named' other (inr is)) claim further
    ]

-- ---- claims of a run that has come to its end

module _ {tools : Tools} {script : List ℕ} {written now : Option (List ℕ)} {counts : Counts} (progress : Progress)
    (f : Finishes tools script written now counts (names_of progress) (state_of progress.manager)) where
  claims-of_run : claims_listed progress ≡ claims_of_turns f.turns
  claims-of_run =
      let stored = (stored_of progress.manager.prover.session.library.store).theorems in
      let printed = printed-stay tools in
      ap (λ (names : List (List ℕ)). map log_claim (stored_claims stored names)) f.named
      ∙ claims-printed stored (theorems_in_turns f.turns)
      (λ shown member. ap (λ (s : State). s.library.theorems shown.name) (sym f.ends) ∙ printed.stays (requested 1 f.is_run.pieces f.is_run.last) f.turns f.is_run.session shown member)

  pub run-named : HaveIdentifiers (claims_stored progress)
  run-named =
      let stored = (stored_of progress.manager.prover.session.library.store).theorems in
      let printed = printed-stay tools in
      subst (λ (names : List (List ℕ)). HaveIdentifiers (stored_claims stored names)) (sym f.named)
      (claims-named stored (theorems_in_turns f.turns) (λ shown member. printed.named (requested 1 f.is_run.pieces f.is_run.last) f.turns f.is_run.session shown member))

  -- what is over the theory and the claims of the session is over those of the run
  pub over-end : (Is : Theory → List LogClaim → Type 0) → Is (theory_of progress) (claims_listed progress) → Is (last_state start f.turns).library.theory (claims_of_turns f.turns)
  over-end Is is =
      subst (λ (state : State). Is state.library.theory (claims_of_turns f.turns)) (sym f.ends) (subst (λ (claims : List LogClaim). Is (theory_of progress) claims) claims-of_run is)

-- ---- the text of a log

-- a log from a journal is one over the journal's theory
pub short-over : {journal : Journal} {claims : List LogClaim} {text : List ℕ} → IsAcceptedLog journal claims text → IsLogOver journal.theory claims text
short-over {journal = journal} is = record {
  journal = journal;
  over = refl;
  is_log = is.is_log;
  is_accepted = λ within. record { state = is.state; accepted = is.accepted; claimed = is.claimed; entries = is.entries };
}

pub long-over : {journal : Journal} {claims : List LogClaim} (long : IsLongLog journal claims) → IsLogOver journal.theory claims long.log
long-over {journal = journal} long = record {
  journal = journal;
  over = refl;
  is_log = long.is_log;
  is_accepted = λ within. absurd (omega (arith, within, long.longer));
}

pub write_fault-listed : {A : Type 0} (result : Result A Fault) → IfErr result (λ (fault : Fault). fault ≡ WriteFault) → IfErr result (Contains (WriteFault ∷ TooLong ∷ Memory ∷ []))
write_fault-listed (Ok x) is = tt
write_fault-listed (Err fault) is = (0, lit< tt, sym is)
