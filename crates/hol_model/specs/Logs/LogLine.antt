-- The lines of a proof log as data. Types, terms and theorems are named by the numbers of their lines, each kind
-- counted by itself from 0.
use Rattle.std.specs.Prelude.{ℕ, List}

-- The second version has declared types and constants besides what the first has.
pub data LogVersion : Type 0 where
  first_version : LogVersion
  second_version : LogVersion

-- How a theorem follows from earlier ones: a rule of HOL Light's `fusion.ml`, an axiom, or a definition.
pub data LogRule : Type 0 where
  refl_step : ℕ → LogRule
  trans_step : ℕ → ℕ → LogRule
  mk_comb_step : ℕ → ℕ → LogRule
  -- the variable, and the theorem
  abs_step : ℕ → ℕ → LogRule
  beta_step : ℕ → LogRule
  assume_step : ℕ → LogRule
  eq_mp_step : ℕ → ℕ → LogRule
  deduct_step : ℕ → ℕ → LogRule
  -- the theorem, and pairs of a new term and an old one
  inst_step : ℕ → List (ℕ × ℕ) → LogRule
  -- the theorem, and pairs of a new type and an old one
  inst_type_step : ℕ → List (ℕ × ℕ) → LogRule
  eta_step : LogRule
  select_step : LogRule
  -- the constant's name, and what it is defined as
  definition_step : List ℕ → ℕ → LogRule

-- A case for each form of line.
pub data LogLine : Type 0 where
  -- the first line
  header_line : LogVersion → LogLine
  type_variable_line : List ℕ → LogLine
  bool_line : LogLine
  function_type_line : ℕ → ℕ → LogLine
  declared_type_line : List ℕ → LogLine
  -- the name, and the type
  variable_line : List ℕ → ℕ → LogLine
  constant_line : List ℕ → ℕ → LogLine
  combination_line : ℕ → ℕ → LogLine
  -- the variable, and the body
  abstraction_line : ℕ → ℕ → LogLine
  new_type_line : List ℕ → LogLine
  new_constant_line : List ℕ → ℕ → LogLine
  theorem_line : LogRule → LogLine
  -- the claim's name, the theorem, its conclusion and its hypotheses
  claim_line : List ℕ → ℕ → ℕ → List ℕ → LogLine
  -- the last line, with the number of claims
  end_line : ℕ → LogLine
