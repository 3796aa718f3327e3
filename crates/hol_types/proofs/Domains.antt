-- The domain of a function type is an instance by itself: no type variable stands before it.
use Rattle.std.proofs.Common.{◌≡◌, ◌∙◌, ℕ, List, true, false, ◌&&◌, refl, sym, ap, Option, Some, None, is_some, if◌then◌else◌}
use Rattle.std.specs.Option.{option_map_or}
use Rattle.std.specs.Str.{bytes_eq}
use Rattle.std.proofs.lemmas.Slice.Eq.{bytes_eq-Decides}
use Rattle.hol_model.specs.Terms.HolType.{HolType, type_variable, function_type, type_eq, part_at, first_answer, fits_generic, is_instance}
use Rattle.hol_model.proofs.Terms.HolTypeEq.{type_eq-self}

pub stands_here : (name : List ℕ) (ty : HolType) → (if bytes_eq name name then Some ty else None) ≡ Some ty
stands_here name ty = ap (λ b. if b then Some ty else None) ((bytes_eq-Decides name name).1 refl)

-- a part fits in one whole as in another where what stands for its variables is the same in both
pub same_fit : (generic ty first part : HolType) → ((name : List ℕ) (found : HolType) → part_at first part name ≡ Some found → part_at generic ty name ≡ Some found)
    → (p x : HolType) → ((name : List ℕ) → is_some (part_at p x name) ≡ true → is_some (part_at first part name) ≡ true)
    → fits_generic generic ty p x ≡ fits_generic first part p x
same_fit generic ty first part keeps (type_variable name) x inside = go (part_at first part name) refl (inside name (ap is_some (stands_here name x)))
  where
    go : (o : Option HolType) → part_at first part name ≡ o → is_some o ≡ true
        → option_map_or (λ found. type_eq found x) (part_at generic ty name) false ≡ option_map_or (λ found. type_eq found x) (part_at first part name) false
    go None e h = absurd (let bad : false ≡ true = h in cc)
    go (Some found) e h = ap (λ o. option_map_or (λ found. type_eq found x) o false) (keeps name found e ∙ sym e)
same_fit generic ty first part keeps (function_type a b) (function_type c d) inside =
    ap (λ l. l && fits_generic generic ty b d) (same_fit generic ty first part keeps a c (λ name h. inside name (in_first (part_at a c name) (part_at b d name) h)))
    ∙ ap (λ r. fits_generic first part a c && r) (same_fit generic ty first part keeps b d (λ name h. inside name (in_second (part_at a c name) (part_at b d name) h)))
  where
    in_first : (o p : Option HolType) → is_some o ≡ true → is_some (first_answer o p) ≡ true
    in_first None p h = absurd (let bad : false ≡ true = h in cc)
    in_first (Some found) p h = refl

    in_second : (o p : Option HolType) → is_some p ≡ true → is_some (first_answer o p) ≡ true
    in_second None p h = h
    in_second (Some found) p h = refl
same_fit generic ty first part keeps _ _ inside = refl

pub variable_fits : (name : List ℕ) (ty : HolType) → true ≡ is_instance (type_variable name) ty
variable_fits name ty = sym (ap (λ o. option_map_or (λ part. type_eq part ty) o false) (stands_here name ty) ∙ type_eq-self ty)

pub domain_fits : (a b c d : HolType) → fits_generic (function_type a b) (function_type c d) a c ≡ is_instance a c
domain_fits a b c d =
    same_fit (function_type a b) (function_type c d) a c (λ name found e. ap (λ o. first_answer o (part_at b d name)) e) a c (λ name h. h)

pub ruleset domains = (variable_fits, domain_fits)
