-- What is among images of terms.
use Rattle.std.proofs.Common.{◌≡◌, List, [], ◌∷◌, map, refl, ap, ◌||◌}
use Rattle.std.specs.List.{list_any}
use Rattle.hol_model.specs.Terms.NamedTerm.{NamedTerm}
use Rattle.hol_model.specs.Terms.Nameless.{image}
use Rattle.hol_model.specs.Kernel.Theorem.{are_alpha_equivalent}
use Rattle.hol_model.specs.Derived.DerivedRules.{is_among}

pub among_images : (t : NamedTerm) (terms : List NamedTerm) → list_any (λ other. are_alpha_equivalent t other) terms ≡ is_among (image t) (map image terms)
among_images t [] = refl
among_images t (term ∷ terms) = ap (λ rest. are_alpha_equivalent t term || rest) (among_images t terms)
