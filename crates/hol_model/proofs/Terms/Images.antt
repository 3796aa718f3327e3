-- The images of terms with names: their types, abstraction as closing, and which variables are free in them.
use Rattle.std.proofs.Common.{◌≡◌, ℕ, suc, List, [], ◌∷◌, ◌++◌, map, length, Bool, true, false, ◌&&◌, ◌||◌, not, refl, sym, ◌∙◌, ap, subst, Option, Some, None, if◌then◌else◌}
use Rattle.std.specs.Option.{option_map, option_map_or}
use Rattle.hol_model.specs.Terms.HolType.{HolType, type_variable, bool_type, function_type, declared_type, type_eq}
use Rattle.hol_model.specs.Terms.NamedTerm.{NamedTerm, variable, constant, combination, abstraction, Binder, same_variable, type_of, application_type, is_free, equation}
use Rattle.hol_model.specs.Terms.Nameless.{free, bound, lam, HasType, image, image_under, variable_image, binder_index}
use Rattle.hol_model.specs.Terms.Substitution.{close_at, close, occurs_free}
use Rattle.hol_model.proofs.Terms.HolTypeEq.{type_eq-Decides, type_eq-self}
use Rattle.hol_model.specs.Logic.Derivable.{nameless_equation}
use Rattle.hol_model.proofs.Terms.Typing.{nameless_type-is}
use Rattle.hol_model.proofs.Tests.{same_variable-type, same_variable-sym, same_name}

-- the types of binders
abbrev pub binder_types : List Binder → List HolType
binder_types binders = map (λ binder. binder.1) binders

variable-typed : (binders : List Binder) (name : List ℕ) (ty : HolType) → HasType (binder_types binders) (variable_image binders name ty) ty
variable-typed [] name ty = refl
variable-typed (binder ∷ binders) name ty = go (same_variable binder.0 binder.1 name ty) refl (binder_index binders name ty) (variable-typed binders name ty)
  where
    go : (test : Bool) → same_variable binder.0 binder.1 name ty ≡ test
        → (found : Option ℕ) → HasType (binder_types binders) (option_map_or bound found (free name ty)) ty
        → HasType (binder_types (binder ∷ binders)) (option_map_or bound (if test then Some 0 else option_map suc found) (free name ty)) ty
    go true passed found typed = ap Some (same_variable-type binder.0 name binder.1 ty passed)
    go false passed None typed = refl
    go false passed (Some index) typed = typed

-- the type of an application, from those of its parts
pub application-typed : (function argument : Option HolType) (ty : HolType) → application_type function argument ≡ Some ty
    → (domain : HolType) × (function ≡ Some (function_type domain ty)) × (argument ≡ Some domain)
application-typed (Some (function_type a b)) (Some c) ty typed = go (type_eq a c) refl typed
  where
    go : (test : Bool) → type_eq a c ≡ test → (if test then Some b else None) ≡ Some ty
        → (domain : HolType) × (Some (function_type a b) ≡ Some (function_type domain ty)) × (Some c ≡ Some domain)
    go true passed typed =
        let codomain : b ≡ ty = cc in
        let domain : a ≡ c = (type_eq-Decides a c).0 passed in
        (a, ap (λ t. Some (function_type a t)) codomain, ap Some (sym domain))
    go false passed typed = cc
application-typed None argument ty typed = cc
application-typed (Some function) None ty typed = cc
application-typed (Some (type_variable name)) (Some c) ty typed = cc
application-typed (Some bool_type) (Some c) ty typed = cc
application-typed (Some (declared_type name)) (Some c) ty typed = cc

-- the image of a typed term has its type
pub image_under-typed : (binders : List Binder) (term : NamedTerm) (ty : HolType) → type_of term ≡ Some ty → HasType (binder_types binders) (image_under binders term) ty
image_under-typed binders (variable name s) ty typed =
    let same : s ≡ ty = cc in
    subst (λ (t : HolType). HasType (binder_types binders) (variable_image binders name s) t) same (variable-typed binders name s)
image_under-typed binders (constant name s) ty typed = cc
image_under-typed binders (combination function argument) ty typed =
    let parts = application-typed (type_of function) (type_of argument) ty typed in
    (parts.0, image_under-typed binders function (function_type parts.0 ty) parts.1, image_under-typed binders argument parts.0 parts.2)
image_under-typed binders (abstraction name s body) ty typed =
    go (type_of body) refl typed (λ c e. image_under-typed ((name, s) ∷ binders) body c e)
  where
    go : (found : Option HolType) → type_of body ≡ found → option_map (function_type s) found ≡ Some ty
        → ((c : HolType) → type_of body ≡ Some c → HasType (s ∷ binder_types binders) (image_under ((name, s) ∷ binders) body) c)
        → (c : HolType) × HasType (s ∷ binder_types binders) (image_under ((name, s) ∷ binders) body) c × (function_type s c ≡ ty)
    go None e h deeper = cc
    go (Some c) e h deeper = let same : function_type s c ≡ ty = cc in (c, deeper c e, same)

pub image-typed : (term : NamedTerm) (ty : HolType) → type_of term ≡ Some ty → HasType [] (image term) ty
image-typed term ty typed = image_under-typed [] term ty typed

-- a term whose image has a type has that type
pub image_under-type : (binders : List Binder) (term : NamedTerm) (ty : HolType) → HasType (binder_types binders) (image_under binders term) ty → type_of term ≡ Some ty
image_under-type binders (variable name s) ty typed =
    ap Some (sym (nameless_type-is (variable_image binders name s) (binder_types binders) s (variable-typed binders name s))
    ∙ nameless_type-is (variable_image binders name s) (binder_types binders) ty typed)
image_under-type binders (constant name s) ty typed = ap Some typed
image_under-type binders (combination function argument) ty typed =
    rw (image_under-type binders function (function_type typed.0 ty) typed.1, image_under-type binders argument typed.0 typed.2, type_eq-self typed.0) refl
image_under-type binders (abstraction name s body) ty typed =
    rw (image_under-type ((name, s) ∷ binders) body typed.0 typed.1) (ap Some typed.2)

pub image-type : (term : NamedTerm) (ty : HolType) → HasType [] (image term) ty → type_of term ≡ Some ty
image-type term ty typed = image_under-type [] term ty typed

-- the image of an equation
pub image-equation : (a b : NamedTerm) (ty : HolType) → type_of a ≡ Some ty → image (equation a b) ≡ nameless_equation ty (image a) (image b)
image-equation a b ty typed = rw typed refl

-- abstraction is closing

variable_image-closed : (binders : List Binder) (outer name : List ℕ) (s ty : HolType)
    → variable_image (binders ++ (outer, s) ∷ []) name ty ≡ close_at (length binders) outer s (variable_image binders name ty)
variable_image-closed [] outer name s ty = go (same_variable outer s name ty)
  where
    go : (test : Bool) → option_map_or bound (if test then Some 0 else None) (free name ty) ≡ (if test then bound 0 else free name ty)
    go true = refl
    go false = refl
variable_image-closed (binder ∷ binders) outer name s ty =
    go (same_variable binder.0 binder.1 name ty) (binder_index (binders ++ (outer, s) ∷ []) name ty) (binder_index binders name ty) (variable_image-closed binders outer name s ty)
  where
    closed_free : (n : ℕ) (p : Option ℕ) (test : Bool) → option_map_or bound p (free name ty) ≡ (if test then bound n else free name ty)
        → option_map_or bound (option_map suc p) (free name ty) ≡ (if test then bound (suc n) else free name ty)
    closed_free n None true e = cc
    closed_free n None false e = refl
    closed_free n (Some i) true e = let same : i ≡ n = cc in ap (λ k. bound (suc k)) same
    closed_free n (Some i) false e = cc

    go : (test : Bool) (p q : Option ℕ) → option_map_or bound p (free name ty) ≡ close_at (length binders) outer s (option_map_or bound q (free name ty))
        → option_map_or bound (if test then Some 0 else option_map suc p) (free name ty)
        ≡ close_at (suc (length binders)) outer s (option_map_or bound (if test then Some 0 else option_map suc q) (free name ty))
    go true p q e = refl
    go false p None e = closed_free (length binders) p (same_variable outer s name ty) e
    go false None (Some i) e = cc
    go false (Some j) (Some i) e = let same : j ≡ i = cc in ap (λ k. bound (suc k)) same

pub image_under-closed : (binders : List Binder) (outer : List ℕ) (s : HolType) (term : NamedTerm)
    → image_under (binders ++ (outer, s) ∷ []) term ≡ close_at (length binders) outer s (image_under binders term)
image_under-closed binders outer s (variable name ty) = variable_image-closed binders outer name s ty
image_under-closed binders outer s (constant name ty) = refl
image_under-closed binders outer s (combination f x) = cc (image_under-closed binders outer s f, image_under-closed binders outer s x)
image_under-closed binders outer s (abstraction name ty body) = ap (λ b. lam ty b) (image_under-closed ((name, ty) ∷ binders) outer s body)

-- the image of an abstraction is the image of its body, closed over the variable
pub image-abstraction : (name : List ℕ) (ty : HolType) (body : NamedTerm) → image (abstraction name ty body) ≡ lam ty (close name ty (image body))
image-abstraction name ty body = ap (λ b. lam ty b) (image_under-closed [] name ty body)

-- free variables

abbrev is_unbound : Option ℕ → Bool
is_unbound None = true
is_unbound (Some index) = false

not_with_false : (p : Bool) → (p && false) ≡ false
not_with_false true = refl
not_with_false false = refl

occurs_free-variable : (binders : List Binder) (name : List ℕ) (ty : HolType) (other : List ℕ) (s : HolType)
    → occurs_free name ty (variable_image binders other s) ≡ (is_unbound (binder_index binders name ty) && same_variable name ty other s)
occurs_free-variable binders name ty other s = go (same_variable name ty other s) refl (binder_index binders other s) refl
  where
    go : (test : Bool) → same_variable name ty other s ≡ test → (found : Option ℕ) → binder_index binders other s ≡ found
        → occurs_free name ty (option_map_or bound found (free other s)) ≡ (is_unbound (binder_index binders name ty) && test)
    go true passed found is =
        let here : binder_index binders name ty ≡ found = rw (same_name name other ty s passed, same_variable-type name other ty s passed) is in
        rw here (cases found)
      where
        cases : (found : Option ℕ) → occurs_free name ty (option_map_or bound found (free other s)) ≡ (is_unbound found && true)
        cases None = passed
        cases (Some index) = refl
    go false passed None is = passed ∙ sym (not_with_false (is_unbound (binder_index binders name ty)))
    go false passed (Some index) is = sym (not_with_false (is_unbound (binder_index binders name ty)))

occurs_free-under : (binders : List Binder) (name : List ℕ) (ty : HolType) (term : NamedTerm)
    → occurs_free name ty (image_under binders term) ≡ (is_unbound (binder_index binders name ty) && is_free name ty term)
occurs_free-under binders name ty (variable other s) = occurs_free-variable binders name ty other s
occurs_free-under binders name ty (constant other s) = sym (not_with_false (is_unbound (binder_index binders name ty)))
occurs_free-under binders name ty (combination f x) =
    rw (occurs_free-under binders name ty f, occurs_free-under binders name ty x) (cases (is_unbound (binder_index binders name ty)) (is_free name ty f) (is_free name ty x))
  where
    cases : (p q r : Bool) → ((p && q) || (p && r)) ≡ (p && (q || r))
    cases true q r = refl
    cases false q r = refl
occurs_free-under binders name ty (abstraction other s body) =
    occurs_free-under ((other, s) ∷ binders) name ty body
    ∙ rw (same_variable-sym other name s ty) (cases (same_variable name ty other s) (binder_index binders name ty) (is_free name ty body))
  where
    cases : (test : Bool) (found : Option ℕ) (free_there : Bool)
        → (is_unbound (if test then Some 0 else option_map suc found) && free_there) ≡ (is_unbound found && (not test && free_there))
    cases true None free_there = refl
    cases true (Some index) free_there = refl
    cases false None free_there = refl
    cases false (Some index) free_there = refl

-- a variable is free in a term where it is free in the term's image
pub occurs_free-image : (name : List ℕ) (ty : HolType) (term : NamedTerm) → occurs_free name ty (image term) ≡ is_free name ty term
occurs_free-image name ty term = occurs_free-under [] name ty term
