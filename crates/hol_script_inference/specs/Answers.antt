-- What the calls on behalf of `thm` answer.
use Rattle.std.specs.Prelude.{◌≡◌, ◌⊎◌, ℕ, List, Result, Ok, Err}
use Rattle.std.proofs.Common.{Vec, Bor, Global}
use Rattle.hol_model.specs.declared.fault.Fault.{Fault}
use Rattle.hol_model.specs.declared.fault.Fault.TheVariants.{Memory, UnknownName}
use Rattle.hol_model.specs.declared.limits.TheConstants.{STEPS_LIMIT}
use Rattle.hol_model.specs.Kernel.Outcome.{given}
use Rattle.hol_model.specs.Kernel.Theorem.{Theorem}
use Rattle.hol_model.specs.Refining.HostFunctions.{HostConversions, no_host_conversions}
use Rattle.hol_model_sessions.specs.Commands.{RuleTree}
use Rattle.hol_model_sessions.specs.CommandGrammar.{TheoremTree}
use Rattle.hol_model_sessions.specs.Sessions.{IsRuleAnswer, scope_in}
use Rattle.hol_model_sessions.specs.Sessions.{State as Library}
use Rattle.hol_model_sessions.specs.Replies.{Refusal, refusal_of}
use Rattle.hol_model_sessions.specs.ScriptSessions.{Tools, IsTheoremAnswer, IsReadableRow}
use Rattle.hol_model_sessions.specs.SessionCalls.{SaysRefusal}
use Rattle.hol_model_sessions.specs.SessionTools.{tools}
use Rattle.hol_host.specs.Host.{HostRefiners, host_of, no_host_refiners}
use Rattle.hol_journal.specs.Journal.{Recorded}
use Rattle.hol_theorem_store.specs.Stored.{Stored}
use Rattle.hol_just_replay.specs.Outcomes.{lent_theorems}
use Rattle.hol_script_session.specs.declared.reply.Refused.{Refused}
use Rattle.hol_script_session.specs.Answers.{Beside, with_beside, row_bytes}
use Rattle.hol_script_session.specs.SessionState.{theorem_of}

-- what may come of tautologies, conversions and refiners in a session with a host's functions
abbrev pub session_tools : HostRefiners → HostConversions → Tools
session_tools refiners conversions = tools (host_of refiners conversions) STEPS_LIMIT

-- the same without a host
abbrev pub hostless : Tools
hostless = session_tools no_host_refiners no_host_conversions

-- ---- what `thm` asks for

-- what the rule may answer, or that there is no memory
abbrev pub AnswersRule : Result Theorem Fault → Library → RuleTree → Type 0
AnswersRule (Ok theorem) library tree = IsRuleAnswer library tree (Ok theorem)
AnswersRule (Err fault) library tree = (fault ≡ Memory) ⊎ IsRuleAnswer library tree (Err fault)

-- the items of this outcome, or that there is no memory
abbrev pub AnswersItems : {A : Type 0} → Result (Vec A Global) Fault → Result (List A) Fault → Type 0
AnswersItems (Ok x) outcome = outcome ≡ Ok x.items
AnswersItems (Err fault) outcome = (fault ≡ Memory) ⊎ (outcome ≡ Err fault)

-- the theorem that is stored under a name
abbrev pub stored_theorem : Stored → List ℕ → Result Theorem Fault
stored_theorem stored name = given (theorem_of (stored.theorems name)) UnknownName (λ theorem. Ok theorem)

-- these theorems are lent, or there is no memory
abbrev pub AnswersLent : Result (Vec (Bor Recorded) Global) Fault → Result (List Theorem) Fault → Type 0
AnswersLent (Ok lent) outcome = outcome ≡ Ok (lent_theorems lent.items)
AnswersLent (Err fault) outcome = (fault ≡ Memory) ⊎ (outcome ≡ Err fault)

-- with these lemmas `thm` may give this, whatever proof stands beside the library
abbrev pub MayGive : Tools → List Theorem → Library → TheoremTree → Result Theorem Refusal → Type 0
MayGive tools lemmas library tree answer = (beside : Beside) → beside.lemmas ≡ lemmas → IsTheoremAnswer tools (with_beside beside library) tree answer

-- `thm` may give this, its refusals without a row, or there is no memory
abbrev pub AnswersPlainly : Tools → List Theorem → Result Theorem Fault → Library → TheoremTree → Type 0
AnswersPlainly tools lemmas (Ok theorem) library tree = MayGive tools lemmas library tree (Ok theorem)
AnswersPlainly tools lemmas (Err fault) library tree = (fault ≡ Memory) ⊎ MayGive tools lemmas library tree (Err (refusal_of fault))

-- A refusal of what `thm` asks for, or that there is no memory, and what is told of it.
pub record RefusesTheorem (tools : Tools) (lemmas : List Theorem) (library : Library) (tree : TheoremTree) (refused : Refused) : Type 0 where
  pub refusal : Refusal
  pub may : (refusal ≡ refusal_of Memory) ⊎ MayGive tools lemmas library tree (Err refusal)
  pub says : SaysRefusal (scope_in library) refused.fault (row_bytes refused) refusal
  pub readable : (beside : Beside) → IsReadableRow (with_beside beside library) refusal.row

-- what `thm` asks for: the theorem, or its refusal
abbrev pub AnswersTheorem : Tools → List Theorem → Result Theorem Refused → Library → TheoremTree → Type 0
AnswersTheorem tools lemmas (Ok theorem) library tree = MayGive tools lemmas library tree (Ok theorem)
AnswersTheorem tools lemmas (Err refused) library tree = RefusesTheorem tools lemmas library tree refused
