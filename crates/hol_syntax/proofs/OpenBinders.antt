-- The open binders as the code holds them.
use Rattle.std.proofs.Common.{◌≡◌, List, [], ◌∷◌, Option, None, Some, refl, sym, ap, ◌∙◌, ℕ}
use Rattle.std.specs.Option.{option_map}
use Rattle.hol_model.specs.Terms.HolType.{HolType}
use Rattle.hol_model.specs.Terms.NamedTerm.{variable, dest_variable}
use Rattle.hol_model.specs.Texts.Reading.{Bindings, bound_type}
use Rattle.hol_syntax.specs.declared.binders.Opened.{Opened}
use Rattle.hol_syntax.specs.OpenBinders.{opened_of}

pub none_opened : (bindings : Bindings) → opened_of bindings ≡ [] → bindings ≡ []
none_opened [] e = refl
none_opened (binding ∷ bindings) e = absurd (let bad : ◌≡◌ {A = List Opened} (opened_of (binding ∷ bindings)) [] = e in cc)

-- what is opened is a variable
pub opened_variable : (bindings : Bindings) (opened : Opened) (rest : List Opened) → opened ∷ rest ≡ opened_of bindings → dest_variable opened.variable ≡ None → ⊥
opened_variable [] opened rest e none = let bad : opened ∷ rest ≡ [] = e in cc
opened_variable (binding ∷ bindings) opened rest e none =
    let top : opened ≡ record { variable = variable binding.0 binding.1; hidden = option_map (variable binding.0) (bound_type bindings binding.0) } = cc in
    let bad : ◌≡◌ {A = Option (List ℕ × HolType)} (Some (binding.0, binding.1)) None = sym (ap (λ o. dest_variable o.variable) top) ∙ none in cc
