use Rattle.std.proofs.Common.{◌≡◌, ◌<◌, ◌≤◌, List, [], ◌∷◌, length, false, refl, arith}
use Rattle.hol_model.specs.Models.Values.{Value, values_of}
use Rattle.hol_model.specs.Models.Values as values
use Rattle.hol_model_evaluator.proofs.element.+same.Goals as goal

-- no elements are not some
empty_and_some : (vs ws : List Value) → length vs < 1 → 1 ≤ length ws → false ≡ values.same_values (values_of vs) (values_of ws)
empty_and_some [] [] none some = let wrong : ⊥ = omega (arith, some) in absurd wrong
empty_and_some [] (w ∷ ws) none some = refl
empty_and_some (v ∷ vs) ws none some = let wrong : ⊥ = omega (arith, none) in absurd wrong

pub same_elements-returns-in-len1-up-ys : goal.same_elements-returns-in-len1-up-ys
same_elements-returns-in-len1-up-ys t c = empty_and_some c.args.xs.now c.args.ys.now c.in-empty.len_below c.in-len1-up-ys.len_at_least
