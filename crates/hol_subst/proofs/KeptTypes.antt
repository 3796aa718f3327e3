-- Replacements keep types: a term has its old type, with type variables replaced.
use Rattle.std.proofs.Common.{◌≡◌, ℕ, List, [], ◌∷◌, Bool, true, false, Some, None, refl, sym, ◌∙◌, ap}
use Rattle.std.specs.Prelude.{Option, if◌then◌else◌}
use Rattle.std.specs.Option.{option_map}
use Rattle.hol_model.specs.Terms.HolType.{HolType, function_type, type_put}
use Rattle.hol_model.specs.Terms.NamedTerm.{NamedTerm, variable, constant, combination, abstraction, same_variable, type_of}
use Rattle.hol_model.proofs.Terms.HolTypeEq.{same_from_type_eq, type_eq-self}
use Rattle.hol_model.proofs.Tests.{first_of_both, second_of_both, same_variable-type}
use Rattle.hol_model.proofs.Terms.Images.{application-typed}
use Rattle.hol_subst.specs.Entries.{Entry, entries, looked_up, KeepsTypes}
use Rattle.hol_model.specs.Terms.Substitution.{same_type, keeps_types}
use Rattle.hol_subst.proofs.Putting.{type_put-none}

-- a kept variable in front of others that keep types
pub KeepsTypes-keeping : (env : List Entry) (types : List (HolType × HolType)) (name : List ℕ) (ty : HolType) → KeepsTypes env types → KeepsTypes (((name, ty), None) ∷ env) types
KeepsTypes-keeping env types name ty kept other s found looked = go (same_variable name ty other s) looked
  where
    go : (test : Bool) → (if test then None else looked_up env other s) ≡ Some found → type_of found ≡ Some (type_put types s)
    go true looked = cc
    go false looked = kept other s found looked

-- a replacement of its type in front of others that keep types
pub KeepsTypes-putting : (env : List Entry) (types : List (HolType × HolType)) (name : List ℕ) (ty : HolType) (new : NamedTerm) → KeepsTypes env types
    → type_of new ≡ Some (type_put types ty) → KeepsTypes (((name, ty), Some new) ∷ env) types
KeepsTypes-putting env types name ty new kept typed other s found looked = go (same_variable name ty other s) refl looked
  where
    go : (test : Bool) → same_variable name ty other s ≡ test → (if test then Some new else looked_up env other s) ≡ Some found → type_of found ≡ Some (type_put types s)
    go true is looked =
        let same : new ≡ found = cc in
        sym (ap type_of same) ∙ typed ∙ ap (λ t. Some (type_put types t)) (same_variable-type name other ty s is)
    go false is looked = kept other s found looked

equal_types : (found : Option HolType) (ty : HolType) → same_type found (Some ty) ≡ true → found ≡ Some ty
equal_types None ty same = cc
equal_types (Some s) ty same = ap Some (same_from_type_eq s ty same)

-- the entries of pairs of one type each keep types
pub KeepsTypes-entries : (theta : List (NamedTerm × NamedTerm)) → keeps_types theta ≡ true → KeepsTypes (entries theta) []
KeepsTypes-entries [] all = λ name ty found looked. cc
KeepsTypes-entries ((new, variable other s) ∷ rest) all =
    KeepsTypes-putting (entries rest) [] other s new
    (KeepsTypes-entries rest (second_of_both (same_type (type_of new) (Some s)) (keeps_types rest) all))
    (equal_types (type_of new) s (first_of_both (same_type (type_of new) (Some s)) (keeps_types rest) all) ∙ ap Some (sym (type_put-none s)))
KeepsTypes-entries ((new, constant other s) ∷ rest) all =
    KeepsTypes-entries rest (second_of_both (same_type (type_of new) (type_of (constant other s))) (keeps_types rest) all)
KeepsTypes-entries ((new, combination f a) ∷ rest) all =
    KeepsTypes-entries rest (second_of_both (same_type (type_of new) (type_of (combination f a))) (keeps_types rest) all)
KeepsTypes-entries ((new, abstraction other s body) ∷ rest) all =
    KeepsTypes-entries rest (second_of_both (same_type (type_of new) (type_of (abstraction other s body))) (keeps_types rest) all)

-- no pairs keep types
pub KeepsTypes-none : (types : List (HolType × HolType)) → KeepsTypes [] types
KeepsTypes-none types name ty found looked = cc

-- no pairs change no type that a term has
pub unchanged_type : (found : Option HolType) → option_map (type_put []) found ≡ found
unchanged_type None = refl
unchanged_type (Some ty) = ap Some (type_put-none ty)

-- a combination of parts of new types has the new type
pub combination-typed : (types : List (HolType × HolType)) (f x g y : NamedTerm) (ty : HolType) → type_of (combination f x) ≡ Some ty
    → type_of g ≡ option_map (type_put types) (type_of f) → type_of y ≡ option_map (type_put types) (type_of x)
    → type_of (combination g y) ≡ Some (type_put types ty)
combination-typed types f x g y ty typed function argument =
    let parts = application-typed (type_of f) (type_of x) ty typed in
    let first : type_of g ≡ Some (function_type (type_put types parts.0) (type_put types ty)) = function ∙ ap (option_map (type_put types)) parts.1 in
    let second : type_of y ≡ Some (type_put types parts.0) = argument ∙ ap (option_map (type_put types)) parts.2 in
    rw (first, second, type_eq-self (type_put types parts.0)) refl

pub ruleset keeping = (KeepsTypes-keeping, KeepsTypes-putting, KeepsTypes-entries, KeepsTypes-none, unchanged_type)
