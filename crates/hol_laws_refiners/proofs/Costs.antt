-- What a conversion or a refiner answers has cost a step.
use Rattle.std.proofs.Common.{◌≡◌, ℕ, suc, ◌<◌, ◌≤◌, Result, Ok, Err, sym, subst, arith}
use Rattle.hol_model.specs.declared.fault.Fault.{Fault}
use Rattle.hol_model.specs.Terms.NamedTerm.{NamedTerm}
use Rattle.hol_model.specs.Texts.Reading.{◌>>=◌}
use Rattle.hol_model.specs.Logic.Theory.{Theory}
use Rattle.hol_model.specs.Kernel.Theorem.{Theorem}
use Rattle.hol_model.specs.Goals.Goals.{Goal}
use Rattle.hol_model.specs.Goals.ValidSteps.{Step}
use Rattle.hol_model.specs.Goals.Replays.{Store}
use Rattle.hol_model.specs.Refining.HostFunctions.{Host, HostConversions}
use Rattle.hol_model.specs.Refining.Conversions as conv
use Rattle.hol_model.specs.Refining.Conversions.{Conversion, Converts}
use Rattle.hol_model.specs.Refining.Combinators as tac
use Rattle.hol_model.specs.Refining.Combinators.{Tactic, Stage, Runs}
use Rattle.hol_laws_refiners.specs.Laws.{CostsStep}
use Rattle.hol_laws_refiners.proofs.Spending.{converts-spends, converts_on-spends}
use Rattle.hol_laws_refiners.proofs.Later.{runs-later, runs_on-later}

-- a step was spent
costs-one : {A : Type 0} (answer : Result A Fault) (left : ℕ) → CostsStep answer (suc left) left
costs-one {A = A} (Ok x) left = omega arith
costs-one {A = A} (Err fault) left = tt

costs-more : {A : Type 0} (answer : Result A Fault) (steps left : ℕ) → left ≤ steps → CostsStep answer (suc steps) left
costs-more {A = A} (Ok x) steps left le = omega arith
costs-more {A = A} (Err fault) steps left le = tt

-- what comes first has cost one
costs-first : {A : Type 0} (answer : Result A Fault) (steps mid left : ℕ) → mid < steps → left ≤ mid → CostsStep answer steps left
costs-first {A = A} (Ok x) steps mid left h k = omega arith
costs-first {A = A} (Err fault) steps mid left h k = tt

-- what comes later has
costs-later : {A : Type 0} (answer : Result A Fault) (steps mid left : ℕ) → mid ≤ steps → CostsStep answer mid left → CostsStep answer steps left
costs-later {A = A} (Ok x) steps mid left h k = omega arith
costs-later {A = A} (Err fault) steps mid left h k = tt

costs-as : {A : Type 0} (answer other : Result A Fault) (steps left : ℕ) → answer ≡ other → CostsStep other steps left → CostsStep answer steps left
costs-as {A = A} answer other steps left is costs = subst (λ (a : Result A Fault). CostsStep a steps left) (sym is) costs

costs-then : {A B : Type 0} (answer : Result A Fault) (next : A → Result B Fault) (steps left : ℕ) → CostsStep answer steps left → CostsStep (answer >>= next) steps left
costs-then {A = A} {B = B} (Ok x) next steps left costs = go (next x)
  where
    go : (other : Result B Fault) → CostsStep other steps left
    go (Ok y) = costs
    go (Err fault) = tt
costs-then {A = A} {B = B} (Err fault) next steps left costs = tt

module _ (theory : Theory) (store : Store) (hosts : HostConversions) where
  pub converts-costs : {depth steps left : ℕ} {c : Conversion} {t : NamedTerm} {answer : Result Theorem Fault} → Converts theory store hosts depth steps c t answer left
      → CostsStep answer steps left
  converts-costs (conv.no_step_is_left is) = tt
  converts-costs (conv.all_converts {left}) = costs-one _ left
  converts-costs (conv.no_converts {left}) = tt
  converts-costs (conv.beta_converts {left} {answer} is) = costs-one answer left
  converts-costs (conv.theorem_is_unknown {left} is) = tt
  converts-costs (conv.has_no_rules {left} is refuses) = tt
  converts-costs (conv.theorem_rewrites {left} {answer} is rules made) = costs-one answer left
  converts-costs (conv.rules_rewrite {left} {answer} made) = costs-one answer left
  converts-costs (conv.host_is_unknown {left} lacks) = tt
  converts-costs (conv.host_fails {left} is fails) = tt
  converts-costs (conv.host_converts {left} {answer} answered is says made) = costs-one answer left
  converts-costs (conv.has_no_such_part {left} lacks) = tt
  converts-costs (conv.is_too_deep {left} down deep) = tt
  converts-costs (conv.argument_converts {steps} {left} {part} {answer} room r is) = costs-as answer _ steps left is (costs-then part _ steps left (converts-costs r))
  converts-costs (conv.function_converts {steps} {left} {part} {answer} room r is) = costs-as answer _ steps left is (costs-then part _ steps left (converts-costs r))
  converts-costs (conv.body_converts {steps} {left} {part} {answer} room r is) = costs-as answer _ steps left is (costs-then part _ steps left (converts-costs r))
  converts-costs (conv.same_without_parts {left} is) = costs-one _ left
  converts-costs (conv.first_part_is_refused room r) = tt
  converts-costs (conv.parts_convert {steps} {mid} {left} {answer} room r s is) = costs-first answer steps mid left (converts-costs r) (converts-spends theory store hosts s)
  converts-costs (conv.only_part_converts r) = converts-costs r
  converts-costs (conv.first_is_refused r) = tt
  converts-costs (conv.first_goes_on {steps} {mid} {left} {answer} r s) = costs-first answer steps mid left (converts-costs r) (converts_on-spends theory store hosts s)
  converts-costs (conv.first_answers r) = converts-costs r
  converts-costs (conv.first_is_not_caught r passes) = tt
  converts-costs (conv.last_is_refused r) = tt
  converts-costs (conv.first_is_caught {steps} {mid} {left} {answer} r caught s) = costs-later answer steps mid left (converts-spends theory store hosts r) (converts-costs s)
  converts-costs (conv.converts_if_changed {steps} {left} {made} {answer} r is) = costs-as answer _ steps left is (costs-then made _ steps left (converts-costs r))
  converts-costs (conv.converts_as_defined is r) = converts-costs r
  converts-costs (conv.finds_no_memory le) = tt

module _ (theory : Theory) (host : Host) where
  pub runs-costs : {before after : Stage} {t : Tactic} {goal : Goal} {answer : Result Step Fault} → Runs theory host before t goal answer after → CostsStep answer before.steps after.steps
  runs-costs (tac.no_step_is_left spends) = tt
  runs-costs (tac.leaf_refines {left} {answer} listed is) = costs-one answer left
  runs-costs (tac.leaf_is_refused is) = tt
  runs-costs (tac.conversion_is_refused by r) = tt
  runs-costs (tac.conversion_is_not_assumed by r foreign) = tt
  runs-costs (tac.conversion_refines {store} {steps} {left} {step} by r assumed proved dest equates is) = costs-more (Ok step) steps left (converts-spends theory store host.conversions r)
  runs-costs (tac.taut_is_refused is) = tt
  runs-costs (tac.taut_refines {left} {step} answers proved is) = costs-one (Ok step) left
  runs-costs (tac.host_is_unknown lacks) = tt
  runs-costs (tac.host_fails is fails) = tt
  runs-costs (tac.host_refines {left} {answer} answered is says answers) = costs-one answer left
  runs-costs (tac.first_is_refused r) = tt
  runs-costs (tac.first_goes_on {before} {mid} {after} {answer} r s) = costs-first answer before.steps mid.steps after.steps (runs-costs r) (runs_on-later theory host s).steps
  runs-costs (tac.first_answers r) = runs-costs r
  runs-costs (tac.first_is_not_caught r passes) = tt
  runs-costs (tac.last_is_refused r) = tt
  runs-costs (tac.first_is_caught {before} {mid} {after} {answer} r caught s) = costs-later answer before.steps mid.steps after.steps (runs-later theory host r).steps (runs-costs s)
  runs-costs (tac.repeat_is_too_deep r deep) = tt
  runs-costs (tac.runs_as_defined is r) = runs-costs r
  runs-costs (tac.finds_no_memory later) = tt
