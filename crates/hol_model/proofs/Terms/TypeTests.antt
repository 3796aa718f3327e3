-- The tests of types and of new names decide what they ask.
use Rattle.std.proofs.Common.{◌≡◌, ◌⊎◌, ℕ, List, [], ◌∷◌, refl, sym, subst, inl, inr, Option, Some, None, Bool}
use Rattle.std.specs.Prelude.{◌&&◌, not}
use Rattle.std.specs.Option.{is_some}
use Rattle.std.specs.Bool.{Decides}
use Rattle.std.specs.Str.{bytes_eq}
use Rattle.std.proofs.lemmas.Slice.Eq.{bytes_eq-Decides}
use Rattle.std.proofs.lemmas.Bool.Decides.{Decides-and, Decides-or, Decides-not, Decides-like}
use Rattle.hol_model.specs.Terms.HolType.{HolType, type_variable, bool_type, function_type, declared_type, OccursInType}
use Rattle.hol_model.specs.Logic.Theory.{Theory, definition, declaration_of_type, declaration_of_constant, generic_type, IsDeclaredType, IsKnownType, IsNewName}
use Rattle.hol_model.specs.Logic.KnownTerm.{is_declared, knows_type}
use Rattle.hol_model.specs.Logic.Legality.{occurs_in_type, reflects_type, is_fixed, is_new_name}
use Rattle.hol_model.proofs.Logic.Conditions.{always, never}

-- what holds of each of two parts, as what holds of the whole
pub Decides-parts : {A : Type 0} {P Q R : A → Type 0} (p q : Bool) → Decides p ((x : A) → P x → R x) → Decides q ((x : A) → Q x → R x)
    → Decides (p && q) ((x : A) → P x ⊎ Q x → R x)
Decides-parts p q d e =
    Decides-like (p && q) (λ both x o. elim o [ inl k ↦ both.0 x k | inr k ↦ both.1 x k ]) (λ h. ((λ x k. h x (inl k)), (λ x k. h x (inr k)))) (Decides-and p q d e)

-- types

pub is_declared-Decides : (theory : Theory) (name : List ℕ) → Decides (is_declared theory name) (IsDeclaredType theory name)
is_declared-Decides [] name = never (λ h. h)
is_declared-Decides (definition other ty body ∷ rest) name = is_declared-Decides rest name
is_declared-Decides (declaration_of_type other ∷ rest) name =
    Decides-or (bytes_eq other name) (is_declared rest name) (Decides-like (bytes_eq other name) (λ e. sym e) (λ e. sym e) (bytes_eq-Decides other name)) (is_declared-Decides rest name)
is_declared-Decides (declaration_of_constant other ty ∷ rest) name = is_declared-Decides rest name

pub knows_type-Decides : (theory : Theory) (ty : HolType) → Decides (knows_type theory ty) (IsKnownType theory ty)
knows_type-Decides theory (type_variable name) = always tt
knows_type-Decides theory bool_type = always tt
knows_type-Decides theory (function_type a b) = Decides-and (knows_type theory a) (knows_type theory b) (knows_type-Decides theory a) (knows_type-Decides theory b)
knows_type-Decides theory (declared_type name) = is_declared-Decides theory name

occurs_in_type-Decides : (name : List ℕ) (ty : HolType) → Decides (occurs_in_type name ty) (OccursInType name ty)
occurs_in_type-Decides name (type_variable other) = bytes_eq-Decides name other
occurs_in_type-Decides name bool_type = never (λ h. h)
occurs_in_type-Decides name (function_type a b) =
    Decides-or (occurs_in_type name a) (occurs_in_type name b) (occurs_in_type-Decides name a) (occurs_in_type-Decides name b)
occurs_in_type-Decides name (declared_type other) = never (λ h. h)

pub reflects_type-Decides : (whole ty : HolType) → Decides (reflects_type whole ty) ((name : List ℕ) → OccursInType name ty → OccursInType name whole)
reflects_type-Decides whole (type_variable other) =
    let d = occurs_in_type-Decides other whole in
    ((λ e name o. subst (λ (n : List ℕ). OccursInType n whole) (sym o) (d.0 e)), (λ h. d.1 (h other refl)))
reflects_type-Decides whole bool_type = always (λ name o. absurd o)
reflects_type-Decides whole (function_type a b) =
    Decides-parts (reflects_type whole a) (reflects_type whole b) (reflects_type-Decides whole a) (reflects_type-Decides whole b)
reflects_type-Decides whole (declared_type other) = always (λ name o. absurd o)

pub is_fixed-Decides : (ty : HolType) → Decides (is_fixed ty) ((name : List ℕ) → ¬ (OccursInType name ty))
is_fixed-Decides (type_variable other) = never (λ h. h other refl)
is_fixed-Decides bool_type = always (λ name o. o)
is_fixed-Decides (function_type a b) = Decides-parts (is_fixed a) (is_fixed b) (is_fixed-Decides a) (is_fixed-Decides b)
is_fixed-Decides (declared_type other) = always (λ name o. o)

-- names

is_unused-Decides : (found : Option HolType) → Decides (not (is_some found)) (found ≡ None)
is_unused-Decides None = always refl
is_unused-Decides (Some ty) = never (λ e. cc)

pub is_new_name-Decides : (theory : Theory) (name : List ℕ) → Decides (is_new_name theory name) (IsNewName theory name)
is_new_name-Decides theory name =
    Decides-like (is_new_name theory name) (λ p. record { no_constant = p.0; no_type = p.1 }) (λ k. (k.no_constant, k.no_type))
    (Decides-and (not (is_some (generic_type theory name))) (not (is_declared theory name)) (is_unused-Decides (generic_type theory name))
    (Decides-not (is_declared theory name) (is_declared-Decides theory name)))
