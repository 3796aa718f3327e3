-- The rules of a stored theorem, made once for many terms.
use Rattle.std.proofs.Common.{◌≡◌, ℕ, List, Some, None, Ok, Err, string_bytes, sym, subst}
use Rattle.std.specs.List.{All}
use Rattle.std.proofs.lemmas.List.Elements.{All-weaker}
use Rattle.hol_model.specs.declared.fault.Fault.{Fault}
use Rattle.hol_model.specs.declared.fault.Fault.TheVariants.{Memory, UnknownName}
use Rattle.hol_model.specs.Kernel.Theorem.{Theorem}
use Rattle.hol_model.specs.Goals.Replays as replays
use Rattle.hol_model.specs.Rewrites.Choice.{Side}
use Rattle.hol_model.specs.Rewrites.Rewriting.{AnswersRules}
use Rattle.hol_journal.specs.Journal.{Recorded}
use Rattle.hol_journal.proofs.GrowthLemmas.{journals-grow}
use Rattle.hol_theorem_store.specs.Stored.{theorems_in}
use Rattle.hol_theorem_store.specs.Store.{stored_of}
use Rattle.hol_theorem_store.specs.declared.store.Store.{Store}
use Rattle.hol_prelude_derivations.specs.Derivations.{AreMade, theorems}
use Rattle.hol_rewrite.specs.RuleSides.{AreEquations, sides_of_rules}
use Rattle.hol_theorem_library.specs.Library.{IsContinued, store_in}
use Rattle.hol_theorem_library.specs.declared.library.Library.{Library}
use Rattle.hol_conv.specs.declared.prepared.NamedRules.{NamedRules}

-- the recorder made the rules, they are equations, and the choice is theirs
pub record AreReady (rules : List Recorded) (choice : List Side) (library : Library) : Type 0 where
  pub made : AreMade library.recorder rules
  pub equations : AreEquations (theorems rules)
  pub chosen : choice ≡ sides_of_rules rules

pub stay-ready : (rules : List Recorded) (choice : List Side) (old new : Library) → IsContinued old new → AreReady rules choice old → AreReady rules choice new
stay-ready rules choice old new continued ready = record {
  made = record { each = λ number made there. journals-grow.stays old.recorder new.recorder made continued.grown (ready.made.each number made there) };
  equations = ready.equations;
  chosen = ready.chosen;
}

-- they are the rules of the theorem of this name
pub record AreRulesOf (store : replays.Store) (name : List ℕ) (rules : List Theorem) : Type 0 where
  pub theorem : Theorem
  pub stored : store.named name ≡ Some theorem
  pub answers : AnswersRules theorem (Ok rules)

-- why there are none: no theorem has the name, its rules are refused, or there is no memory
pub data RefusesRules (store : replays.Store) (name : List ℕ) : Fault → Type 0 where
  is_unnamed : store.named name ≡ None → RefusesRules store name UnknownName
  is_without_rules : {theorem : Theorem} {fault : Fault} → store.named name ≡ Some theorem → AnswersRules theorem (Err fault) → RefusesRules store name fault
  is_without_memory : RefusesRules store name Memory

-- the rules of a stored theorem, ready for the library
pub record IsPrepared (library : Library) (named : NamedRules) : Type 0 where
  pub rules : AreRulesOf (store_in library) (string_bytes named.name) (theorems named.rules.items)
  pub ready : AreReady named.rules.items named.choice library

pub stays-prepared : (named : NamedRules) (old new : Library) → IsContinued old new → IsPrepared old named → IsPrepared new named
stays-prepared named old new continued prepared = record {
  rules = subst (λ (store : Store). AreRulesOf (theorems_in (stored_of store)) (string_bytes named.name) (theorems named.rules.items)) (sym continued.stored) prepared.rules;
  ready = stay-ready named.rules.items named.choice old new continued prepared.ready;
}

-- they are those of the theorem of this name
pub record IsPreparedFor (library : Library) (name : List ℕ) (named : NamedRules) : Type 0 where
  pub prepared : IsPrepared library named
  pub of_name : string_bytes named.name ≡ name

abbrev pub ArePrepared : Library → List NamedRules → Type 0
ArePrepared library all = All (IsPrepared library) all

pub stay-prepared : (all : List NamedRules) (old new : Library) → IsContinued old new → ArePrepared old all → ArePrepared new all
stay-prepared all old new continued prepared = All-weaker (IsPrepared old) (IsPrepared new) (λ named is. stays-prepared named old new continued is) all prepared
