-- The parts of a term that can be read back.
use Rattle.std.proofs.Common.{◌≡◌, ℕ, ◌≤◌, Bool, true, false, ◌&&◌, List, Option, None, Some, Result, Ok, Err, is_some, refl, ap, ◌∙◌, arith, if◌then◌else◌}
use Rattle.std.specs.Option.{option_map}
use Rattle.std.proofs.lemmas.Bool.{leb-true, le-leb}
use Rattle.std.proofs.lemmas.Bool.Decides.{nat_tests}
use Rattle.hol_model.specs.declared.fault.Fault.{Fault}
use Rattle.hol_model.specs.declared.fault.Fault.TheVariants.{TooLarge, TypeMismatch}
use Rattle.hol_model.specs.Terms.Name.{is_identifier}
use Rattle.hol_model.specs.Terms.HolType.{HolType, function_type, type_nodes}
use Rattle.hol_model.specs.Terms.NamedTerm.{NamedTerm, variable, constant, combination, abstraction, height, application_type, type_of, type_fits, some_type_fits, types_fit, is_within_limits}
use Rattle.hol_model.specs.Texts.Reading.{Scope, within_limits, known_constant, well_typed}
use Rattle.hol_model.specs.Texts.Texts.{IsNamedType, IsReadableType, IsKnownTerm, IsReadableTerm}

pub both_true : (a b : Bool) → a && b ≡ true → (a ≡ true) × (b ≡ true)
both_true true true e = (refl, refl)
both_true true false e = absurd (let bad : false ≡ true = e in cc)
both_true false b e = absurd (let bad : false ≡ true = e in cc)

-- what a well-typed term is
pub record IsTyped (term : NamedTerm) : Type 0 where
  pub typed : is_some (type_of term) ≡ true
  pub within : is_within_limits term ≡ true

pub is_typed : (term : NamedTerm) → well_typed term ≡ Ok term → IsTyped term
is_typed term e = go (is_some (type_of term)) refl (is_within_limits term) refl e
  where
    go : (a : Bool) → is_some (type_of term) ≡ a → (b : Bool) → is_within_limits term ≡ b
        → ◌≡◌ {A = Result NamedTerm Fault} (if a then (if b then Ok term else Err TooLarge) else Err TypeMismatch) (Ok term) → IsTyped term
    go true e true f k = record { typed = e; within = f }
    go true e false f k = absurd (let bad : ◌≡◌ {A = Result NamedTerm Fault} (Err TooLarge) (Ok term) = k in cc)
    go false e b f k = absurd (let bad : ◌≡◌ {A = Result NamedTerm Fault} (Err TypeMismatch) (Ok term) = k in cc)

typed_is : (term : NamedTerm) → IsTyped term → well_typed term ≡ Ok term
typed_is term h = ap (λ b. if b then within_limits term else Err TypeMismatch) h.typed ∙ ap (λ b. if b then Ok term else Err TooLarge) h.within

both_some : (o p : Option HolType) → is_some (application_type o p) ≡ true → (is_some o ≡ true) × (is_some p ≡ true)
both_some (Some x) (Some y) e = (refl, refl)
both_some (Some x) None e = absurd (let bad : false ≡ true = e in cc)
both_some None p e = absurd (let bad : false ≡ true = e in cc)

function_within : (f a : NamedTerm) → is_within_limits (combination f a) ≡ true → is_within_limits f ≡ true
function_within f a h = grind (arith, nat_tests)

argument_within : (f a : NamedTerm) → is_within_limits (combination f a) ≡ true → is_within_limits a ≡ true
argument_within f a h = grind (arith, nat_tests)

body_within : (name : List ℕ) (ty : HolType) (body : NamedTerm) → is_within_limits (abstraction name ty body) ≡ true → is_within_limits body ≡ true
body_within name ty body h = grind (arith, nat_tests)

body_some : (ty : HolType) (o : Option HolType) → is_some (option_map (function_type ty) o) ≡ true → is_some o ≡ true
body_some ty (Some s) e = refl
body_some ty None e = e

domain_fits : (ty s : HolType) → type_fits (function_type ty s) ≡ true → type_fits ty ≡ true
domain_fits ty s h = grind (arith, nat_tests)

binder_fits : (ty : HolType) (o : Option HolType) → is_some o ≡ true → some_type_fits (option_map (function_type ty) o) ≡ true → type_fits ty ≡ true
binder_fits ty (Some s) e h = domain_fits ty s h
binder_fits ty None e h = absurd (let bad : false ≡ true = e in cc)

abstraction_fits : (name : List ℕ) (ty : HolType) (body : NamedTerm) → IsTyped (abstraction name ty body) → type_fits ty ≡ true
abstraction_fits name ty body h =
    let types = (both_true _ (types_fit (abstraction name ty body)) h.within).1 in
    binder_fits ty (type_of body) (body_some ty (type_of body) h.typed) (both_true (types_fit body) _ types).1

-- the same of each part
abbrev pub IsReadable : Scope → NamedTerm → Type 0
IsReadable scope (variable name ty) = IsReadableType scope ty × (is_identifier name ≡ true)
IsReadable scope (constant name ty) = IsReadableType scope ty × (known_constant scope name ty ≡ Ok (constant name ty))
IsReadable scope (combination f a) = IsReadable scope f × IsReadable scope a × (well_typed (combination f a) ≡ Ok (combination f a))
IsReadable scope (abstraction name ty body) =
    IsReadableType scope ty × (is_identifier name ≡ true) × IsReadable scope body × (well_typed (abstraction name ty body) ≡ Ok (abstraction name ty body))

parts_readable : (scope : Scope) (term : NamedTerm) → IsKnownTerm scope term → IsTyped term → IsReadable scope term
parts_readable scope (variable name ty) k h = (record { named = k.0; fits = h.within }, k.1)
parts_readable scope (constant name ty) k h = (record { named = k.0; fits = h.within }, k.1)
parts_readable scope (combination f a) k h =
    let some = both_some (type_of f) (type_of a) h.typed in (
      parts_readable scope f k.0 (record { typed = some.0; within = function_within f a h.within }),
      parts_readable scope a k.1 (record { typed = some.1; within = argument_within f a h.within }),
      typed_is (combination f a) h,
    )
parts_readable scope (abstraction name ty body) k h = (
  record { named = k.0; fits = abstraction_fits name ty body h },
  k.1,
  parts_readable scope body k.2 (record { typed = body_some ty (type_of body) h.typed; within = body_within name ty body h.within }),
  typed_is (abstraction name ty body) h,
)

pub is_readable : (scope : Scope) (term : NamedTerm) → IsReadableTerm scope term → IsReadable scope term
is_readable scope term h = parts_readable scope term h.known (is_typed term h.typed)

pub within_height : (term : NamedTerm) → IsTyped term → height term ≤ 2000
within_height term h = leb-true (height term) 2000 (both_true _ _ (both_true _ (types_fit term) h.within).0).0

-- a term of the program is well typed and within the limits
pub known_readable : (scope : Scope) (term : NamedTerm) → is_some (type_of term) ≡ true → is_within_limits term ≡ true → IsKnownTerm scope term
    → IsReadableTerm scope term
known_readable scope term typed within known = record { known = known; typed = typed_is term (record { typed = typed; within = within }) }

pub named_readable : (scope : Scope) (ty : HolType) → type_nodes ty ≤ 4000 → IsNamedType scope ty → IsReadableType scope ty
named_readable scope ty within named = record { named = named; fits = le-leb (type_nodes ty) 4000 within }
