-- Rules of a stored theorem that are made once.
use Rattle.std.proofs.Common.{◌≡◌, List, ℕ, sym, subst, string_bytes, Some, Result, Ok, Err, IfErr}
use Rattle.hol_model.specs.declared.fault.Fault.{Fault}
use Rattle.hol_model.specs.declared.fault.Fault.TheVariants.{Memory}
use Rattle.hol_model.specs.Terms.NamedTerm.{NamedTerm}
use Rattle.hol_model.specs.Kernel.Theorem.{Theorem}
use Rattle.hol_model.specs.Goals.Replays as replays
use Rattle.hol_model.specs.Rewrites.Rewriting.{AnswersRules}
use Rattle.hol_journal.specs.Journal.{Recorded}
use Rattle.hol_theorem_store.specs.Stored.{theorems_in}
use Rattle.hol_theorem_store.specs.Store.{stored_of}
use Rattle.hol_theorem_store.specs.declared.store.Store.{Store}
use Rattle.hol_prelude_derivations.specs.Derivations.{AreMade, theorems}
use Rattle.hol_rewrite.specs.RuleSides.{sides_of_rules}
use Rattle.hol_rewrite.proofs.RuleEquations.{rules-are-equations}
use Rattle.hol_theorem_library.specs.Library.{IsLibrary, IsContinued, store_in}
use Rattle.hol_theorem_library.specs.declared.library.Library.{Library}
use Rattle.hol_conv.specs.Makes.{Makes}
use Rattle.hol_conv.specs.OneStep as one_step
use Rattle.hol_conv.specs.OneStep.{RewritesByName}
use Rattle.hol_conv.specs.Prepared.{AreRulesOf, RefusesRules, is_unnamed, is_without_rules, is_without_memory, IsPreparedFor}
use Rattle.hol_conv.specs.declared.prepared.NamedRules.{NamedRules}
use Rattle.hol_conv.proofs.Making.{makes_then}

-- the rules that were made of the theorem, and their choice
pub prepared : (old new : Library) (name : List ℕ) (named : NamedRules) → IsContinued old new → string_bytes named.name ≡ name
    → AreRulesOf (store_in old) name (theorems named.rules.items) → AreMade new.recorder named.rules.items → named.choice ≡ sides_of_rules named.rules.items → IsPreparedFor new name named
prepared old new name named continued of_name rules made chosen = record {
  prepared = record {
    rules =
        subst (λ (store : Store). AreRulesOf (theorems_in (stored_of store)) (string_bytes named.name) (theorems named.rules.items)) (sym continued.stored)
        (subst (λ (n : List ℕ). AreRulesOf (store_in old) n (theorems named.rules.items)) (sym of_name) rules);
    ready = record { made = made; equations = rules-are-equations rules.theorem (theorems named.rules.items) rules.answers; chosen = chosen };
  };
  of_name = of_name;
}

-- where the rules of the theorem are refused
pub refused-rules : {A : Type 0} (store : replays.Store) (name : List ℕ) (theorem : Theorem) (result : Result A Fault) → store.named name ≡ Some theorem
    → IfErr result (λ fault. AnswersRules theorem (Err fault)) → IfErr result (RefusesRules store name)
refused-rules store name theorem (Ok rules) is answers = answers
refused-rules store name theorem (Err fault) is answers = is_without_rules is answers

-- where there are none
pub refused-by-name : {store : replays.Store} {name : List ℕ} {term : NamedTerm} {fault : Fault} → RefusesRules store name fault → RewritesByName store name term (Err fault)
refused-by-name (is_unnamed none) = one_step.is_unknown none
refused-by-name (is_without_rules is answers) = one_step.has_no_rules is answers
refused-by-name is_without_memory = one_step.has_no_memory

-- what a call before leaves, which made no theorem of its own
pub makes-later : {first second third : Library} {result : Result Recorded Fault} → IsLibrary second → IsContinued first second → Makes second third result → Makes first third result
makes-later {first} {second} {third} {result} is continued after =
    makes_then first second third (Err Memory) result (record { library = is; continued = continued; made = tt }) after
