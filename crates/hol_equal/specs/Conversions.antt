-- What beta conversion makes of an abstraction and an argument.
use Rattle.std.specs.Prelude.{◌≡◌, ℕ, List, [], ◌∷◌, Bool, Some, None, Result}
use Rattle.std.specs.List.{list_all}
use Rattle.hol_model.specs.declared.fault.Fault.{Fault}
use Rattle.hol_model.specs.declared.fault.Fault.TheVariants.{BadShape}
use Rattle.hol_model.specs.Terms.HolType.{HolType}
use Rattle.hol_model.specs.Terms.NamedTerm.{NamedTerm, variable, combination, abstraction, type_of}
use Rattle.hol_model.specs.Terms.Nameless.{Nameless, free, app, lam, image, nameless_type}
use Rattle.hol_model.specs.Terms.Measures.{nameless_within_limits}
use Rattle.hol_model.specs.Terms.Substitution.{close, fill}
use Rattle.hol_model.specs.Logic.Theory.{Theory}
use Rattle.hol_model.specs.Logic.Derivable.{nameless_equation}
use Rattle.hol_model.specs.Logic.NamedLogic.{dest_redex}
use Rattle.hol_model.specs.Kernel.Outcome.{given, refused}
use Rattle.hol_model.specs.Kernel.Rules.{first_unknown}
use Rattle.hol_model.specs.Derived.DerivedRules.{Stated, stated_up_to_names, body_with}

-- \x. b
abbrev pub closed : List ℕ → HolType → NamedTerm → Nameless
closed name ty body = lam ty (close name ty (image body))

-- (\x. b) x
abbrev pub trivial : List ℕ → HolType → NamedTerm → Nameless
trivial name ty body = app (closed name ty body) (free name ty)

-- (\x. b) a = b[a/x]
abbrev pub conversion : List ℕ → HolType → HolType → NamedTerm → NamedTerm → Nameless
conversion name ty codomain body argument =
    nameless_equation codomain (app (closed name ty body) (image argument)) (fill (image argument) (close name ty (image body)))

-- the redex of the variable, its conversion and that of the argument are within the limits
abbrev pub conversion_fits : List ℕ → HolType → HolType → NamedTerm → NamedTerm → Bool
conversion_fits name ty codomain body argument =
    list_all nameless_within_limits
    (trivial name ty body ∷ nameless_equation codomain (trivial name ty body) (image body) ∷ conversion name ty codomain body argument ∷ [])

-- an abstraction, its variable, and an argument of the variable's type, which the theory knows
pub record IsKnownRedex (theory : Theory) (function binder argument : NamedTerm) : Type 0 where
  pub name : List ℕ
  pub ty : HolType
  pub codomain : HolType
  pub body : NamedTerm
  pub function_is : function ≡ abstraction name ty body
  pub binder_is : binder ≡ variable name ty
  pub body_typed : type_of body ≡ Some codomain
  pub argument_typed : type_of argument ≡ Some ty
  pub known : first_unknown theory (combination (abstraction name ty body) argument) ≡ None

-- BETA_CONV up to the names of bound variables, those of the left side too
abbrev pub beta_converted_outcome : Theory → NamedTerm → Result Stated Fault
beta_converted_outcome theory term =
    given (dest_redex term) BadShape (λ redex.
    refused (first_unknown theory term)
    (stated_up_to_names [] (nameless_equation (nameless_type [] (image term)) (image term) (body_with redex.0 redex.1))))
