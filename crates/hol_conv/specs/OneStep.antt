-- The conversions that spend one step, and have no parts.
use Rattle.std.specs.Prelude.{◌≡◌, ℕ, suc, List, Option, Some, None, Result, Ok, Err}
use Rattle.hol_model.specs.declared.fault.Fault.{Fault}
use Rattle.hol_model.specs.declared.fault.Fault.TheVariants.{Memory, UnknownName}
use Rattle.hol_model.specs.Terms.NamedTerm.{NamedTerm}
use Rattle.hol_model.specs.Logic.Theory.{Theory}
use Rattle.hol_model.specs.Kernel.Theorem.{Theorem}
use Rattle.hol_model.specs.Goals.Replays.{Store}
use Rattle.hol_model.specs.Rewrites.Rewriting.{AnswersRules, Rewrites}
use Rattle.hol_model.specs.Refining.HostFunctions.{HostConversions}
use Rattle.hol_model.specs.Refining.Conversions.{Conversion, Converts}

-- the conversion may answer this on the term for one step, wherever it stands
abbrev pub ConvertsInStep : Theory → Store → HostConversions → Conversion → NamedTerm → Result Theorem Fault → Type 0
ConvertsInStep theory store hosts conversion term answer = (depth left : ℕ) → Converts theory store hosts depth (suc left) conversion term answer left

-- what rewriting by the rules of a stored theorem may answer
pub data RewritesByName (store : Store) (name : List ℕ) (term : NamedTerm) : Result Theorem Fault → Type 0 where
  is_unknown : store.named name ≡ None → RewritesByName store name term (Err UnknownName)
  has_no_rules : {theorem : Theorem} {fault : Fault} → store.named name ≡ Some theorem → AnswersRules theorem (Err fault) → RewritesByName store name term (Err fault)
  rewrites_by_rules : {theorem : Theorem} {rules : List Theorem} {answer : Result Theorem Fault} → store.named name ≡ Some theorem → AnswersRules theorem (Ok rules)
      → Rewrites rules term answer → RewritesByName store name term answer
  has_no_memory : RewritesByName store name term (Err Memory)
