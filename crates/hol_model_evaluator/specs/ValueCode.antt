-- How a proof tells values apart: a value as a tree of numbers. How many nodes a value has.
use Rattle.std.specs.Prelude.{◌≡◌, ℕ, ◌+◌}
use Rattle.std.specs.Coded.{Coded}
use Rattle.std.proofs.Common.{refl, ap}
use base.Stored.{Gv, gnil, gnum, gcons}
use Rattle.hol_model.specs.Models.Values.{Value, number, rows, Values, no_values, one_more}

abbrev mutual
  pub code_value : Value → Gv
  code_value (number n) = gcons gnil (gnum n)
  code_value (rows vs) = gcons (gnum 0) (code_values vs)

  pub code_values : Values → Gv
  code_values no_values = gnil
  code_values (one_more v vs) = gcons (code_value v) (code_values vs)

mutual
  pub code_value-injective : (v w : Value) → code_value v ≡ code_value w → v ≡ w
  code_value-injective (number m) (number n) same = cc
  code_value-injective (number m) (rows ws) same = cc
  code_value-injective (rows vs) (number n) same = cc
  code_value-injective (rows vs) (rows ws) same = let inner : code_values vs ≡ code_values ws = cc in ap rows (code_values-injective vs ws inner)

  pub code_values-injective : (vs ws : Values) → code_values vs ≡ code_values ws → vs ≡ ws
  code_values-injective no_values no_values same = refl
  code_values-injective no_values (one_more w ws) same = cc
  code_values-injective (one_more v vs) no_values same = cc
  code_values-injective (one_more v vs) (one_more w ws) same =
      let first : code_value v ≡ code_value w = cc in
      let others : code_values vs ≡ code_values ws = cc in
      cc (code_value-injective v w first, code_values-injective vs ws others)

abbrev pub value_code : Coded Value
value_code = record { code = code_value; inj = code_value-injective }

abbrev mutual
  pub value_nodes : Value → ℕ
  value_nodes (number n) = 1
  value_nodes (rows vs) = values_nodes vs + 1

  pub values_nodes : Values → ℕ
  values_nodes no_values = 0
  values_nodes (one_more v vs) = value_nodes v + values_nodes vs + 1
