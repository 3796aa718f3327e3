-- When the type of a quantifier is an instance of a generic type, by the generic type's parts.
use Rattle.std.proofs.Common.{◌≡◌, ◌⊎◌, inl, inr, ℕ, List, Bool, true, false, ◌&&◌, not, refl, sym, ◌∙◌, ap, Option, Some, None, if◌then◌else◌}
use Rattle.std.specs.Option.{option_map_or}
use Rattle.std.specs.Str.{bytes_eq}
use Rattle.hol_model.specs.Terms.HolType.{HolType, type_variable, bool_type, function_type, declared_type, type_eq, part_at, first_answer, fits_generic, is_instance}
use Rattle.hol_model.proofs.Terms.HolTypeEq.{type_eq-self}
use Rattle.hol_model.specs.Texts.Reading.{quantifier_type}
use Rattle.hol_types.proofs.Domains.{stands_here, same_fit}
use Rattle.hol_syntax.specs.Building.{allows_truth, fits_truth, is_truth_apart}

pub at_predicate_variable : (name : List ℕ) (truth ty : HolType) → is_instance (function_type (type_variable name) truth) (quantifier_type ty) ≡ is_truth_apart name truth
at_predicate_variable name truth ty =
    ap (λ l. l && fits_generic (function_type (type_variable name) truth) (quantifier_type ty) truth bool_type) whole ∙ go truth
  where
    whole : fits_generic (function_type (type_variable name) truth) (quantifier_type ty) (type_variable name) (function_type ty bool_type) ≡ true
    whole =
        ap (λ o. option_map_or (λ part. type_eq part (function_type ty bool_type)) (first_answer o (part_at truth bool_type name)) false) (stands_here name (function_type ty bool_type))
        ∙ type_eq-self (function_type ty bool_type)

    variable_apart : (other : List ℕ) (b : Bool)
        → option_map_or (λ part. type_eq part bool_type) (first_answer (if b then Some (function_type ty bool_type) else None) (Some bool_type)) false ≡ not b
    variable_apart other true = refl
    variable_apart other false = refl

    go : (truth : HolType) → fits_generic (function_type (type_variable name) truth) (quantifier_type ty) truth bool_type ≡ is_truth_apart name truth
    go (type_variable other) =
        ap (λ o. option_map_or (λ part. type_eq part bool_type) (first_answer (if bytes_eq name other then Some (function_type ty bool_type) else None) o) false) (stands_here other bool_type)
        ∙ variable_apart other (bytes_eq name other)
    go bool_type = refl
    go (function_type a b) = refl
    go (declared_type other) = refl

-- what stands for `bool` in the second part and behind it, by what stands in the first part
second_allowed : (o p : Option HolType) → option_map_or (λ part. type_eq part bool_type) (first_answer (first_answer o (Some bool_type)) p) false ≡ allows_truth o
second_allowed None p = refl
second_allowed (Some ty) p = refl

third_allowed : (o p : Option HolType) → (p ≡ None) ⊎ (p ≡ Some bool_type)
    → option_map_or (λ part. type_eq part bool_type) (first_answer (first_answer o p) (Some bool_type)) false ≡ allows_truth o
third_allowed None p (inl e) = ap (λ q. option_map_or (λ part. type_eq part bool_type) (first_answer q (Some bool_type)) false) e
third_allowed None p (inr e) = ap (λ q. option_map_or (λ part. type_eq part bool_type) (first_answer q (Some bool_type)) false) e
third_allowed (Some ty) p e = refl

in_truth : (part : HolType) (name : List ℕ) → (part_at part bool_type name ≡ None) ⊎ (part_at part bool_type name ≡ Some bool_type)
in_truth (type_variable other) name = go (bytes_eq other name)
  where
    go : (b : Bool) → ((if b then Some bool_type else None) ≡ None) ⊎ ((if b then Some bool_type else None) ≡ Some bool_type)
    go true = inr refl
    go false = inl refl
in_truth bool_type name = inl refl
in_truth (function_type a b) name = inl refl
in_truth (declared_type other) name = inl refl

second_fits : (first second truth ty : HolType)
    → fits_generic (function_type (function_type first second) truth) (quantifier_type ty) second bool_type ≡ fits_truth first ty second
second_fits first (type_variable name) truth ty =
    ap (λ o. option_map_or (λ part. type_eq part bool_type) (first_answer (first_answer (part_at first ty name) o) (part_at truth bool_type name)) false) (stands_here name bool_type)
    ∙ second_allowed (part_at first ty name) (part_at truth bool_type name)
second_fits first bool_type truth ty = refl
second_fits first (function_type a b) truth ty = refl
second_fits first (declared_type name) truth ty = refl

third_fits : (first second truth ty : HolType)
    → fits_generic (function_type (function_type first second) truth) (quantifier_type ty) truth bool_type ≡ fits_truth first ty truth
third_fits first second (type_variable name) ty =
    ap (λ o. option_map_or (λ part. type_eq part bool_type) (first_answer (first_answer (part_at first ty name) (part_at second bool_type name)) o) false) (stands_here name bool_type)
    ∙ third_allowed (part_at first ty name) (part_at second bool_type name) (in_truth second name)
third_fits first second bool_type ty = refl
third_fits first second (function_type a b) ty = refl
third_fits first second (declared_type name) ty = refl

pub at_predicate : (first second truth ty : HolType)
    → is_instance (function_type (function_type first second) truth) (quantifier_type ty) ≡ ((is_instance first ty && fits_truth first ty second) && fits_truth first ty truth)
at_predicate first second truth ty =
    ap (λ l. (l && fits_generic generic (quantifier_type ty) second bool_type) && fits_generic generic (quantifier_type ty) truth bool_type)
    (same_fit generic (quantifier_type ty) first ty (λ name found e. ap (λ o. first_answer (first_answer o (part_at second bool_type name)) (part_at truth bool_type name)) e) first ty (λ name h. h))
    ∙ ap (λ m. (is_instance first ty && m) && fits_generic generic (quantifier_type ty) truth bool_type) (second_fits first second truth ty)
    ∙ ap (λ r. (is_instance first ty && fits_truth first ty second) && r) (third_fits first second truth ty)
  where
    generic : HolType
    generic = function_type (function_type first second) truth
