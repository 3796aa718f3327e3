-- The open binders as the code holds them.
use Rattle.std.specs.Prelude.{◌≡◌, ℕ, List, [], ◌∷◌, reverse, Option, None, Some, Result, Ok, Err}
use Rattle.std.specs.Option.{option_map}
use Rattle.std.specs.HashMap as map
use Rattle.std.specs.Map.{update}
use Rattle.std.specs.Str.{bytes_eq}
use Rattle.hol_model.specs.declared.fault.Fault.{Fault}
use Rattle.hol_model.specs.declared.fault.Fault.TheVariants.{Memory}
use Rattle.hol_model.specs.Terms.HolType.{HolType}
use Rattle.hol_model.specs.Terms.NamedTerm.{NamedTerm, variable}
use Rattle.hol_model.specs.Texts.Reading.{Bindings, bound_type}
use Rattle.hol_syntax.specs.declared.binders.Opened.{Opened}
use Rattle.hol_syntax.specs.declared.binders.Binders.{Binders}
use Rattle.hol_syntax.specs.Building.{binding_variable}

-- the name stands for the variable, and the others for what they did
abbrev pub SetsName : (List ℕ → Option NamedTerm) → (List ℕ → Option NamedTerm) → List ℕ → Option NamedTerm → Type 0
SetsName old new name stands = (other : List ℕ) → new other ≡ update bytes_eq old name stands other

-- each binder's variable with the one that it hides
abbrev pub opened_of : Bindings → List Opened
opened_of [] = []
opened_of (binding ∷ bindings) =
    record { variable = binding_variable binding; hidden = option_map (variable binding.0) (bound_type bindings binding.0) } ∷ opened_of bindings

-- these binders are open, the innermost first
pub record IsOpened (here : Binders) (bindings : Bindings) : Type 0 where
  pub opened : reverse here.opened.items ≡ opened_of bindings
  pub innermost : (name : List ℕ) → map.get_by_text here.innermost name ≡ option_map (variable name) (bound_type bindings name)

abbrev pub Enters : Result (Unit {0}) Fault → Binders → List ℕ → HolType → Bindings → Type 0
Enters (Ok x) here name ty bindings = IsOpened here ((name, ty) ∷ bindings)
Enters (Err fault) here name ty bindings = fault ≡ Memory

abbrev pub Leaves : Result (Option NamedTerm) Fault → Binders → Bindings → Type 0
Leaves (Ok None) here bindings = bindings ≡ []
Leaves (Ok (Some left)) here [] = ⊥
Leaves (Ok (Some left)) here (binding ∷ bindings) = (left ≡ binding_variable binding) × IsOpened here bindings
Leaves (Err fault) here bindings = fault ≡ Memory
