-- A conversion and a refiner spend no more steps than there are.
use Rattle.std.proofs.Common.{ℕ, suc, ◌≤◌, Result, arith}
use Rattle.hol_model.specs.declared.fault.Fault.{Fault}
use Rattle.hol_model.specs.Terms.NamedTerm.{NamedTerm}
use Rattle.hol_model.specs.Logic.Theory.{Theory}
use Rattle.hol_model.specs.Kernel.Theorem.{Theorem}
use Rattle.hol_model.specs.Goals.Replays.{Store}
use Rattle.hol_model.specs.Refining.HostFunctions.{HostConversions}
use Rattle.hol_model.specs.Refining.Conversions.{Conversion, Conversions, Converts, ConvertsOn, no_step_is_left, all_converts, no_converts, beta_converts, theorem_is_unknown, has_no_rules}
use Rattle.hol_model.specs.Refining.Conversions.{theorem_rewrites, rules_rewrite, host_is_unknown, host_fails, host_converts, has_no_such_part, is_too_deep, argument_converts, function_converts}
use Rattle.hol_model.specs.Refining.Conversions.{body_converts, same_without_parts, first_part_is_refused, parts_convert, only_part_converts, first_is_refused, first_goes_on, first_answers}
use Rattle.hol_model.specs.Refining.Conversions.{first_is_not_caught, last_is_refused, first_is_caught, converts_if_changed, converts_as_defined, finds_no_memory, ends, next_is_refused}
use Rattle.hol_model.specs.Refining.Conversions.{is_not_joined, is_joined, goes_on_without_memory}

fewer : (n : ℕ) → n ≤ suc n
fewer n = omega arith

none : (n : ℕ) → n ≤ n
none n = omega arith

both : (a b c : ℕ) → a ≤ b → b ≤ c → a ≤ c
both a b c h k = omega arith

module _ (theory : Theory) (store : Store) (hosts : HostConversions) where
  mutual
    pub converts-spends : {depth steps left : ℕ} {c : Conversion} {t : NamedTerm} {answer : Result Theorem Fault} → Converts theory store hosts depth steps c t answer left → left ≤ steps
    converts-spends (no_step_is_left is) = none 0
    converts-spends (all_converts {left}) = fewer left
    converts-spends (no_converts {left}) = fewer left
    converts-spends (beta_converts {left} is) = fewer left
    converts-spends (theorem_is_unknown {left} is) = fewer left
    converts-spends (has_no_rules {left} is refuses) = fewer left
    converts-spends (theorem_rewrites {left} is rules made) = fewer left
    converts-spends (rules_rewrite {left} made) = fewer left
    converts-spends (host_is_unknown {left} lacks) = fewer left
    converts-spends (host_fails {left} is fails) = fewer left
    converts-spends (host_converts {left} answered is says made) = fewer left
    converts-spends (has_no_such_part {left} lacks) = none left
    converts-spends (is_too_deep {left} down deep) = none left
    converts-spends (argument_converts room r is) = converts-spends r
    converts-spends (function_converts room r is) = converts-spends r
    converts-spends (body_converts room r is) = converts-spends r
    converts-spends (same_without_parts {left} is) = fewer left
    converts-spends (first_part_is_refused room r) = converts-spends r
    converts-spends (parts_convert {steps} {mid} {left} room r s is) = both left mid steps (converts-spends s) (converts-spends r)
    converts-spends (only_part_converts r) = converts-spends r
    converts-spends (first_is_refused r) = converts-spends r
    converts-spends (first_goes_on {steps} {mid} {left} r s) = both left mid steps (converts_on-spends s) (converts-spends r)
    converts-spends (first_answers r) = converts-spends r
    converts-spends (first_is_not_caught r passes) = converts-spends r
    converts-spends (last_is_refused r) = converts-spends r
    converts-spends (first_is_caught {steps} {mid} {left} r is s) = both left mid steps (converts-spends s) (converts-spends r)
    converts-spends (converts_if_changed r is) = converts-spends r
    converts-spends (converts_as_defined is r) = converts-spends r
    converts-spends (finds_no_memory le) = le

    pub converts_on-spends : {depth steps left : ℕ} {theorem : Theorem} {cs : Conversions} {answer : Result Theorem Fault}
        → ConvertsOn theory store hosts depth steps theorem cs answer left → left ≤ steps
    converts_on-spends (ends {left}) = none left
    converts_on-spends (next_is_refused is r) = converts-spends r
    converts_on-spends (is_not_joined is r fails) = converts-spends r
    converts_on-spends (is_joined {steps} {mid} {left} is r joined s) = both left mid steps (converts_on-spends s) (converts-spends r)
    converts_on-spends (goes_on_without_memory le) = le
