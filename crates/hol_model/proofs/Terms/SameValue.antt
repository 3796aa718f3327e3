-- The test for one value decides whether two values are the same.
use Rattle.std.proofs.Common.{◌≡◌, true, refl, ap}
use Rattle.std.specs.Bool.{Decides}
use Rattle.std.specs.Cmp.{unsigned_Decides}
use Rattle.hol_model.specs.Models.Values.{Value, number, rows, Values, no_values, one_more, same_value, same_values}
use Rattle.hol_model.proofs.Tests.{first_of_both, second_of_both, both}

mutual
  pub same_value-self : (v : Value) → same_value v v ≡ true
  same_value-self (number n) = (unsigned_Decides n n).1 refl
  same_value-self (rows vs) = same_values-self vs

  same_values-self : (vs : Values) → same_values vs vs ≡ true
  same_values-self no_values = refl
  same_values-self (one_more v vs) = both (same_value v v) (same_values vs vs) (same_value-self v) (same_values-self vs)

mutual
  same_from_same_value : (v w : Value) → same_value v w ≡ true → v ≡ w
  same_from_same_value (number m) (number n) passed = ap number ((unsigned_Decides m n).0 passed)
  same_from_same_value (number m) (rows ws) passed = cc
  same_from_same_value (rows vs) (number n) passed = cc
  same_from_same_value (rows vs) (rows ws) passed = ap rows (same_from_same_values vs ws passed)

  same_from_same_values : (vs ws : Values) → same_values vs ws ≡ true → vs ≡ ws
  same_from_same_values no_values no_values passed = refl
  same_from_same_values no_values (one_more w ws) passed = cc
  same_from_same_values (one_more v vs) no_values passed = cc
  same_from_same_values (one_more v vs) (one_more w ws) passed =
      let first : v ≡ w = same_from_same_value v w (first_of_both (same_value v w) (same_values vs ws) passed) in
      let others : vs ≡ ws = same_from_same_values vs ws (second_of_both (same_value v w) (same_values vs ws) passed) in
      cc

pub same_value-Decides : (v w : Value) → Decides (same_value v w) (v ≡ w)
same_value-Decides v w = (same_from_same_value v w, λ same. rw same (same_value-self w))
