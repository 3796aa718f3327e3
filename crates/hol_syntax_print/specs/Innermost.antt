-- The innermost binder of each name, as the printer holds it.
use Rattle.std.specs.Prelude.{◌≡◌, ℕ, List, Option}
use Rattle.std.specs.Borrow.{Bor}
use Rattle.std.specs.Option.{option_map}
use Rattle.std.specs.HashMap as map
use Rattle.std.specs.Map.{update}
use Rattle.std.specs.Str.{bytes_eq}
use Rattle.hol_model.specs.Terms.HolType.{HolType}
use Rattle.hol_model.specs.Texts.Reading.{Bindings, bound_type}
use Rattle.hol_syntax_print.specs.declared.innermost.Innermost.{Innermost}

-- the type that a name stands for, if it stands for one
abbrev pub bound : Innermost → List ℕ → Option (Bor HolType)
bound here name = map.get_by (λ key. bytes_eq name key.now) here.types

-- the name stands for the type, and the others for what they did
abbrev pub SetsBound : (List ℕ → Option (Bor HolType)) → (List ℕ → Option (Bor HolType)) → List ℕ → Option (Bor HolType) → Type 0
SetsBound old new name stands = (other : List ℕ) → new other ≡ update bytes_eq old name stands other

-- each name has the type of its innermost binder
pub record IsInnermost (here : Innermost) (bindings : Bindings) : Type 0 where
  pub types : (name : List ℕ) → option_map (λ ty. ty.now) (bound here name) ≡ bound_type bindings name
