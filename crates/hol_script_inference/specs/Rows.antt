-- Refusals with the row of values that makes a proposition false.
use Rattle.std.specs.Prelude.{◌≡◌, ◌⊎◌, ℕ, List, [], ◌∷◌, ◌++◌, Bool, codes}
use Rattle.hol_model.specs.declared.fault.Fault.{Fault}
use Rattle.hol_model.specs.declared.fault.Fault.TheVariants.{Memory}
use Rattle.hol_model.specs.Terms.NamedTerm.{NamedTerm}
use Rattle.hol_model.specs.Propositional.Propositions.{atoms_of}
use Rattle.hol_model.specs.Texts.Reading.{Scope}
use Rattle.hol_model_sessions.specs.Replies.{Refusal, refusal_of, value_text}
use Rattle.hol_model_sessions.specs.ScriptSessions.{row_of_fault}
use Rattle.hol_model_sessions.specs.SessionCalls.{SaysRefusal}
use Rattle.hol_script_session.specs.declared.reply.Refused.{Refused}
use Rattle.hol_script_session.specs.Answers.{row_bytes}

-- the values, the first behind these bytes and each other behind a comma
abbrev pub values_behind : Scope → List ℕ → List (NamedTerm × Bool) → List ℕ
values_behind scope before [] = []
values_behind scope before (value ∷ values) = before ++ value_text scope value ++ values_behind scope (codes ", ") values

-- the refusal of this term for this fault, with its row
abbrev pub refusal_for : NamedTerm → Fault → Refusal
refusal_for term fault = record { fault = fault; row = row_of_fault (atoms_of term) fault }

-- The refusal, or that there is no memory, is what is told.
pub record TellsRow (scope : Scope) (term : NamedTerm) (fault : Fault) (refused : Refused) : Type 0 where
  pub refusal : Refusal
  pub is : (refusal ≡ refusal_of Memory) ⊎ (refusal ≡ refusal_for term fault)
  pub says : SaysRefusal scope refused.fault (row_bytes refused) refusal
