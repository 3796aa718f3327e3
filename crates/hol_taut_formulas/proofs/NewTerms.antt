-- The list of atoms, part by part.
use Rattle.std.proofs.Common.{◌≡◌, List, [], ◌∷◌, ◌++◌, refl}
use Rattle.hol_model.specs.Terms.NamedTerm.{NamedTerm}
use Rattle.hol_model.specs.Propositional.Propositions.{with_new_terms}

-- to add two lists one after the other is to add them joined
pub with_new_terms-append : (xs seen ys : List NamedTerm) → with_new_terms seen (xs ++ ys) ≡ with_new_terms (with_new_terms seen xs) ys
with_new_terms-append [] seen ys = refl
with_new_terms-append (x ∷ xs) seen ys = with_new_terms-append xs _ ys

pub ruleset adding_terms = (with_new_terms-append)
