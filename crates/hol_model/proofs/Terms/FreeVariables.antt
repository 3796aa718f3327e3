-- The list of free variables, part by part.
use Rattle.std.proofs.Common.{◌≡◌, List, [], ◌∷◌, ◌++◌, refl}
use Rattle.hol_model.specs.Terms.NamedTerm.{NamedTerm, with_new_variables}

-- to add two lists one after the other is to add them joined
pub with_new_variables-append : (xs seen ys : List NamedTerm) → with_new_variables seen (xs ++ ys) ≡ with_new_variables (with_new_variables seen xs) ys
with_new_variables-append [] seen ys = refl
with_new_variables-append (x ∷ xs) seen ys = with_new_variables-append xs _ ys

pub ruleset adding_variables = (with_new_variables-append)
