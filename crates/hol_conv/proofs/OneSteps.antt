-- What calls that spend one step come to as conversions, whatever conversions a host has.
use Rattle.std.proofs.Common.{◌≡◌, ◌⊎◌, ℕ, suc, ◌≤◌, List, [], ◌∷◌, Bool, sym, subst, inl, inr, Option, Some, None, Result, Ok, Err, arith}
use Rattle.hol_model.specs.declared.fault.Fault.{Fault}
use Rattle.hol_model.specs.declared.fault.Fault.TheVariants.{Memory, ConvFails}
use Rattle.hol_model.specs.Terms.NamedTerm.{NamedTerm}
use Rattle.hol_model.specs.Terms.Nameless.{image}
use Rattle.hol_model.specs.Logic.Theory.{Theory}
use Rattle.hol_model.specs.Kernel.Rules.{refl_outcome}
use Rattle.hol_model.specs.Kernel.Theorem.{Theorem}
use Rattle.hol_model.specs.Derived.DerivedRules.{Stated, AnswersStated}
use Rattle.hol_model.specs.Goals.Replays.{Store}
use Rattle.hol_model.specs.Rewrites.Rewriting.{Rewrites, AnswersRules}
use Rattle.hol_model.specs.Refining.HostFunctions.{HostConversions}
use Rattle.hol_model.specs.Refining.Conversions as conv
use Rattle.hol_model.specs.Refining.Conversions.{Conversion, Converts, redex_outcome, all_converts, no_converts, beta_converts, theorem_is_unknown, theorem_rewrites, rules_rewrite, finds_no_memory}
use Rattle.hol_conv.specs.Makes.{Joins}
use Rattle.hol_conv.specs.OneStep as one_step
use Rattle.hol_conv.specs.OneStep.{ConvertsInStep, RewritesByName, is_unknown, rewrites_by_rules, has_no_memory}

-- ---- BETA_CONV

-- ---- REWR_CONV

pub rewritten-by-rules : (store : Store) (name : List ℕ) (term : NamedTerm) (theorem : Theorem) (rules : List Theorem) (answer : Result Theorem Fault) → store.named name ≡ Some theorem
    → AnswersRules theorem (Ok rules) → Rewrites rules term answer ⊎ (answer ≡ Err Memory) → RewritesByName store name term answer
rewritten-by-rules store name term theorem rules answer is answers (inl found) = rewrites_by_rules is answers found
rewritten-by-rules store name term theorem rules answer is answers (inr memory) = subst (RewritesByName store name term) (sym memory) has_no_memory

-- ---- as conversions

module _ (theory : Theory) (store : Store) (hosts : HostConversions) (term : NamedTerm) where
  pub converts_without_memory : (conversion : Conversion) → ConvertsInStep theory store hosts conversion term (Err Memory)
  converts_without_memory conversion depth left = finds_no_memory (omega arith)

  pub converts_all : (answer : Result Theorem Fault) → Joins (refl_outcome theory term) answer → ConvertsInStep theory store hosts conv.all_conv term answer
  converts_all answer (inl is) depth left = subst (λ (a : Result Theorem Fault). Converts theory store hosts depth (suc left) conv.all_conv term a left) (sym is) all_converts
  converts_all answer (inr is) depth left =
      subst (λ (a : Result Theorem Fault). Converts theory store hosts depth (suc left) conv.all_conv term a left) (sym is) (converts_without_memory conv.all_conv depth left)

  pub converts_no : ConvertsInStep theory store hosts conv.no_conv term (Err ConvFails)
  converts_no depth left = no_converts

  pub converts_beta : (answer : Result Theorem Fault) → AnswersStated answer (image term ∷ []) (redex_outcome theory term) → ConvertsInStep theory store hosts conv.beta_conv term answer
  converts_beta answer answers depth left = beta_converts answers

  pub converts_rules : (rules : List Theorem) (answer : Result Theorem Fault) → Rewrites rules term answer ⊎ (answer ≡ Err Memory)
      → ConvertsInStep theory store hosts (conv.rules_conv rules) term answer
  converts_rules rules answer (inl found) depth left = rules_rewrite found
  converts_rules rules answer (inr is) depth left =
      subst (λ (a : Result Theorem Fault). Converts theory store hosts depth (suc left) (conv.rules_conv rules) term a left) (sym is)
      (converts_without_memory (conv.rules_conv rules) depth left)

  pub converts_named : (name : List ℕ) (answer : Result Theorem Fault) → RewritesByName store name term answer → ConvertsInStep theory store hosts (conv.rewr_conv name) term answer
  converts_named name answer (is_unknown none) depth left = theorem_is_unknown none
  converts_named name answer (one_step.has_no_rules is answers) depth left = conv.has_no_rules is answers
  converts_named name answer (rewrites_by_rules is answers found) depth left = theorem_rewrites is answers found
  converts_named name answer has_no_memory depth left = converts_without_memory (conv.rewr_conv name) depth left
