-- Where a variable is sought after a replacement, and that it is nowhere else.
use Rattle.std.proofs.Common.{◌≡◌, inl, inr, ℕ, suc, List, [], ◌∷◌, Bool, true, false, ◌&&◌, ◌||◌, not, Some, None, refl, sym, ◌∙◌, ap}
use Rattle.std.specs.Prelude.{Option, if◌then◌else◌, bit_and, bit_or}
use Rattle.std.specs.Option.{option_map, option_map_or, is_some}
use Rattle.hol_model.specs.Terms.HolType.{HolType, type_put}
use Rattle.hol_model.specs.Terms.NamedTerm.{NamedTerm, variable, constant, combination, abstraction, Binder, same_variable, is_free}
use Rattle.hol_model.specs.Terms.Nameless.{free, bound, image, image_under, binder_index}
use Rattle.hol_model.specs.Terms.Substitution.{occurs_free}
use Rattle.hol_model.proofs.Tests.{same_name, same_variable-type, same_variable-self}
use Rattle.hol_model.proofs.Terms.Images.{occurs_free-image}
use Rattle.hol_terms.specs.Classes.{class_of_name, have_common_class, classes_of_names}
use Rattle.hol_terms.proofs.FreeNames.{nothing_common, apart_from_first, apart_from_second, other_names, has_class}
use Rattle.hol_subst.specs.Entries.{Entry, entries, looked_up, instance_of, mapped, replaced}
use Rattle.hol_subst.specs.Touched.{Covers, changes_type, changes_types}
use Rattle.hol_subst.specs.Occurrences.{IsFreeIn}
use Rattle.hol_subst.specs.VariableTypes.{Admits, HasVariables, admits, may_have}
use Rattle.hol_subst.specs.Sought.{IsBroughtBy, IsBroughtFrom, IsKeptIn, classes_brought, is_apart}
use Rattle.hol_subst.proofs.Apart.{first_apart, second_apart, type_stays, function_stays, argument_stays, body_stays, leaf_stays}
use Rattle.hol_subst.proofs.Variables.{admitted_test}

-- a variable that is free in no new term is brought by none
pub IsBroughtFrom-none : (table : List ℕ → Option (List HolType)) (classes : ℕ) (env : List Entry) (binders : List Binder) (old new class : ℕ) (name : List ℕ) (ty : HolType) →
    Covers old new env → class ≡ class_of_name name
    → have_common_class new class ≡ false → IsBroughtFrom table classes env binders name ty
IsBroughtFrom-none table classes env binders old new class name ty covers is apart = record {
  absent = λ other s term known far unbound looked.
      (covers.absent name ty (ap (bit_and new) (sym is) ∙ nothing_common new class apart)).absent other s term looked;
}

-- one more that is kept
pub IsBroughtFrom-keeping : (table : List ℕ → Option (List HolType)) (classes : ℕ) (env : List Entry) (binders : List Binder) (name : List ℕ) (ty : HolType) (kept : List ℕ) (kept_type : HolType)
    → IsBroughtFrom table classes env binders name ty → IsBroughtFrom table classes (((kept, kept_type), None) ∷ env) binders name ty
IsBroughtFrom-keeping table classes env binders name ty kept kept_type is =
    record { absent = λ other s term known far unbound looked. go (same_variable kept kept_type other s) other s term known far unbound looked }
  where
    go : (test : Bool) (other : List ℕ) (s : HolType) (term : NamedTerm) → admits (table other) s ≡ true → bit_and classes (class_of_name other) ≡ 0 → binder_index binders other s ≡ None
        → (if test then None else looked_up env other s) ≡ Some term → is_free name ty term ≡ false
    go true other s term known far unbound looked = cc
    go false other s term known far unbound looked = is.absent other s term known far unbound looked

-- one more that is replaced by a term without the variable
pub IsBroughtFrom-beside : (table : List ℕ → Option (List HolType)) (classes : ℕ) (env : List Entry) (binders : List Binder) (name : List ℕ) (ty : HolType) (put : List ℕ)
    (put_type : HolType) (new : NamedTerm)
    → is_free name ty new ≡ false → IsBroughtFrom table classes env binders name ty → IsBroughtFrom table classes (((put, put_type), Some new) ∷ env) binders name ty
IsBroughtFrom-beside table classes env binders name ty put put_type new none is =
    record { absent = λ other s term known far unbound looked. go (same_variable put put_type other s) other s term known far unbound looked }
  where
    go : (test : Bool) (other : List ℕ) (s : HolType) (term : NamedTerm) → admits (table other) s ≡ true → bit_and classes (class_of_name other) ≡ 0 → binder_index binders other s ≡ None
        → (if test then Some new else looked_up env other s) ≡ Some term → is_free name ty term ≡ false
    go true other s term known far unbound looked = let same : new ≡ term = cc in ap (is_free name ty) (sym same) ∙ none
    go false other s term known far unbound looked = is.absent other s term known far unbound looked

-- one more that is replaced, but that a binder binds
pub IsBroughtFrom-bound : (table : List ℕ → Option (List HolType)) (classes : ℕ) (env : List Entry) (binders : List Binder) (name : List ℕ) (ty : HolType) (put : List ℕ) (put_type : HolType)
    (new : NamedTerm)
    → is_some (binder_index binders put put_type) ≡ true → IsBroughtFrom table classes env binders name ty → IsBroughtFrom table classes (((put, put_type), Some new) ∷ env) binders name ty
IsBroughtFrom-bound table classes env binders name ty put put_type new is_bound is =
    record { absent = λ other s term known far unbound looked. go (same_variable put put_type other s) other s term refl known far unbound looked }
  where
    go : (test : Bool) (other : List ℕ) (s : HolType) (term : NamedTerm) → same_variable put put_type other s ≡ test
        → admits (table other) s ≡ true → bit_and classes (class_of_name other) ≡ 0 → binder_index binders other s ≡ None
        → (if test then Some new else looked_up env other s) ≡ Some term → is_free name ty term ≡ false
    go true other s term same known far unbound looked =
        let here : binder_index binders put put_type ≡ None = rw (same_name put other put_type s same, same_variable-type put other put_type s same) unbound in
        let not_bound : is_some (binder_index binders put put_type) ≡ false = ap is_some here in
        let clash : true ≡ false = sym is_bound ∙ not_bound in
        cc
    go false other s term same known far unbound looked = is.absent other s term known far unbound looked

-- one more that is replaced, but that the table lacks
pub IsBroughtFrom-unknown : (table : List ℕ → Option (List HolType)) (classes : ℕ) (env : List Entry) (binders : List Binder) (name : List ℕ) (ty : HolType)
    (put : List ℕ) (put_type : HolType) (new : NamedTerm)
    → admits (table put) put_type ≡ false → IsBroughtFrom table classes env binders name ty → IsBroughtFrom table classes (((put, put_type), Some new) ∷ env) binders name ty
IsBroughtFrom-unknown table classes env binders name ty put put_type new unknown is =
    record { absent = λ other s term known far unbound looked. go (same_variable put put_type other s) other s term refl known far unbound looked }
  where
    go : (test : Bool) (other : List ℕ) (s : HolType) (term : NamedTerm) → same_variable put put_type other s ≡ test
        → admits (table other) s ≡ true → bit_and classes (class_of_name other) ≡ 0 → binder_index binders other s ≡ None
        → (if test then Some new else looked_up env other s) ≡ Some term → is_free name ty term ≡ false
    go true other s term same known far unbound looked =
        let here : admits (table put) put_type ≡ true = rw (same_name put other put_type s same, same_variable-type put other put_type s same) known in
        let clash : true ≡ false = sym here ∙ unknown in
        cc
    go false other s term same known far unbound looked = is.absent other s term known far unbound looked

-- one more that is replaced
IsBroughtFrom-union : (table : List ℕ → Option (List HolType)) (classes : ℕ) (env : List Entry) (binders : List Binder) (name : List ℕ) (ty : HolType) (put : List ℕ) (put_type : HolType)
    (new : NamedTerm)
    → IsBroughtFrom table classes env binders name ty → IsBroughtFrom table (bit_or classes (class_of_name put)) (((put, put_type), Some new) ∷ env) binders name ty
IsBroughtFrom-union table classes env binders name ty put put_type new is =
    record { absent = λ other s term known far unbound looked. go (same_variable put put_type other s) other s term refl known far unbound looked }
  where
    go : (test : Bool) (other : List ℕ) (s : HolType) (term : NamedTerm) → same_variable put put_type other s ≡ test
        → admits (table other) s ≡ true → bit_and (bit_or classes (class_of_name put)) (class_of_name other) ≡ 0 → binder_index binders other s ≡ None
        → (if test then Some new else looked_up env other s) ≡ Some term → is_free name ty term ≡ false
    go true other s term same known far unbound looked =
        absurd (has_class put (ap (λ n. bit_and (class_of_name put) (class_of_name n)) (same_name put other put_type s same)
        ∙ second_apart classes (class_of_name put) (class_of_name other) far))
    go false other s term same known far unbound looked =
        is.absent other s term known (first_apart classes (class_of_name put) (class_of_name other) far) unbound looked

pub IsBroughtFrom-putting : (table : List ℕ → Option (List HolType)) (more classes class : ℕ) (env : List Entry) (binders : List Binder) (name : List ℕ) (ty : HolType) (put : List ℕ)
    (put_type : HolType) (new : NamedTerm)
    → more ≡ bit_or classes class → class ≡ class_of_name put
    → IsBroughtFrom table classes env binders name ty → IsBroughtFrom table more (((put, put_type), Some new) ∷ env) binders name ty
IsBroughtFrom-putting table more classes class env binders name ty put put_type new union is brought =
    rw (union, is) (IsBroughtFrom-union table classes env binders name ty put put_type new brought)

-- the pair replaces a variable of a table by a term in which the variable is free
abbrev brings : (List ℕ → Option (List HolType)) → List ℕ → HolType → NamedTerm × NamedTerm → Bool
brings table name ty pair = is_free name ty pair.0 && may_have table pair.1

bringing-start : (table : List ℕ → Option (List HolType)) (name : List ℕ) (ty : HolType) (theta : List (NamedTerm × NamedTerm)) (start m : ℕ)
    → bit_and (classes_brought table name ty start theta) m ≡ 0 → bit_and start m ≡ 0
bringing-start table name ty [] start m apart = apart
bringing-start table name ty (pair ∷ rest) start m apart =
    go (brings table name ty pair) (bringing-start table name ty rest (if brings table name ty pair then bit_or start (classes_of_names pair.1) else start) m apart)
  where
    go : (test : Bool) → bit_and (if test then bit_or start (classes_of_names pair.1) else start) m ≡ 0 → bit_and start m ≡ 0
    go true both = first_apart start (classes_of_names pair.1) m both
    go false none = none

first_fails : (p q : Bool) → (p && q) ≡ false → q ≡ true → p ≡ false
first_fails true q none second = sym second ∙ none
first_fails false q none second = refl

bringing-absent : (table : List ℕ → Option (List HolType)) (name : List ℕ) (ty : HolType) (theta : List (NamedTerm × NamedTerm)) (start : ℕ)
    (other : List ℕ) (s : HolType) (term : NamedTerm) → admits (table other) s ≡ true
    → bit_and (classes_brought table name ty start theta) (class_of_name other) ≡ 0 → looked_up (entries theta) other s ≡ Some term → is_free name ty term ≡ false
bringing-absent table name ty [] start other s term known far looked = cc
bringing-absent table name ty ((new, variable third t) ∷ rest) start other s term known far looked =
    go (same_variable third t other s) (is_free name ty new && admits (table third) t) refl refl looked
    (bringing-start table name ty rest (if is_free name ty new && admits (table third) t then bit_or start (class_of_name third) else start) (class_of_name other) far)
    (bringing-absent table name ty rest (if is_free name ty new && admits (table third) t then bit_or start (class_of_name third) else start) other s term known far)
  where
    go : (same test : Bool) → same_variable third t other s ≡ same → (is_free name ty new && admits (table third) t) ≡ test
        → (if same then Some new else looked_up (entries rest) other s) ≡ Some term
        → bit_and (if test then bit_or start (class_of_name third) else start) (class_of_name other) ≡ 0
        → (looked_up (entries rest) other s ≡ Some term → is_free name ty term ≡ false)
        → is_free name ty term ≡ false
    go true true is found looked apart later =
        absurd (has_class third (ap (λ n. bit_and (class_of_name third) (class_of_name n)) (same_name third other t s is)
        ∙ second_apart start (class_of_name third) (class_of_name other) apart))
    go true false is found looked apart later =
        let here : admits (table third) t ≡ true = rw (same_name third other t s is, same_variable-type third other t s is) known in
        let same : new ≡ term = cc in
        ap (is_free name ty) (sym same) ∙ first_fails (is_free name ty new) (admits (table third) t) found here
    go false test is found looked apart later = later looked
bringing-absent table name ty ((new, constant third t) ∷ rest) start other s term known far looked =
    bringing-absent table name ty rest (if brings table name ty (new, constant third t) then bit_or start 0 else start) other s term known far looked
bringing-absent table name ty ((new, combination f x) ∷ rest) start other s term known far looked =
    bringing-absent table name ty rest (if brings table name ty (new, combination f x) then bit_or start (classes_of_names (combination f x)) else start)
    other s term known far looked
bringing-absent table name ty ((new, abstraction third t body) ∷ rest) start other s term known far looked =
    bringing-absent table name ty rest (if brings table name ty (new, abstraction third t body) then bit_or start (classes_of_names body) else start)
    other s term known far looked

pub IsBroughtFrom-pairs : (table : List ℕ → Option (List HolType)) (classes : ℕ) (theta : List (NamedTerm × NamedTerm)) (binders : List Binder)
    (name : List ℕ) (ty : HolType) → classes ≡ classes_brought table name ty 0 theta → IsBroughtFrom table classes (entries theta) binders name ty
IsBroughtFrom-pairs table classes theta binders name ty is = record {
  absent = λ other s term known far unbound looked.
      bringing-absent table name ty theta 0 other s term known (ap (λ n. bit_and n (class_of_name other)) (sym is) ∙ far) looked;
}

-- what a table that has a term's variables tells of the term
pub IsBroughtBy-from : (table : List ℕ → Option (List HolType)) (classes : ℕ) (env : List Entry) (binders : List Binder) (name : List ℕ) (ty : HolType) (term : NamedTerm)
    → IsBroughtFrom table classes env binders name ty → HasVariables table term → IsBroughtBy classes env binders name ty term
IsBroughtBy-from table classes env binders name ty term is has = record {
  absent = λ other s new occurs far unbound looked. is.absent other s new (admitted_test (table other) s (has.has other s occurs)) far unbound looked;
}

-- only variables of its name become a variable
pub IsKeptIn-name : (class : ℕ) (types : List (HolType × HolType)) (binders : List Binder) (name : List ℕ) (ty : HolType) (term : NamedTerm)
    → class ≡ class_of_name name → IsKeptIn class types binders name ty term
IsKeptIn-name class types binders name ty term is = record {
  differs = λ other s occurs far unbound. other_names name other ty (type_put types s) (ap (λ n. bit_and n (class_of_name other)) (sym is) ∙ far);
}

-- a variable of a term whose types stay keeps its type
variable_stays : (types : List (HolType × HolType)) (name : List ℕ) (ty : HolType) (term : NamedTerm) → IsFreeIn name ty term → changes_types types term ≡ false
    → type_put types ty ≡ ty
variable_stays types name ty (variable other s) occurs none = rw (occurs.1) (type_stays types s (leaf_stays types other s none))
variable_stays types name ty (constant other s) occurs none = absurd occurs
variable_stays types name ty (combination f x) (inl occurs) none = variable_stays types name ty f occurs (function_stays types f x none)
variable_stays types name ty (combination f x) (inr occurs) none = variable_stays types name ty x occurs (argument_stays types f x none)
variable_stays types name ty (abstraction other s body) occurs none = variable_stays types name ty body occurs.0 (body_stays types other s body none)

-- the variable that the one binder binds is not free under it
unbound_differs : (name : List ℕ) (ty : HolType) (other : List ℕ) (s : HolType) → binder_index ((name, ty) ∷ []) other s ≡ None → same_variable name ty other s ≡ false
unbound_differs name ty other s unbound = go (same_variable name ty other s) unbound
  where
    go : (test : Bool) → (if test then Some 0 else option_map suc None) ≡ None → test ≡ false
    go true none = cc
    go false none = refl

-- where types stay, no other variable becomes the binder's
pub IsKeptIn-types_stay : (classes : ℕ) (types : List (HolType × HolType)) (name : List ℕ) (ty new_type : HolType) (body : NamedTerm)
    → new_type ≡ type_put types ty → changes_type types ty ≡ false → changes_types types body ≡ false
    → IsKeptIn classes types ((name, ty) ∷ []) name new_type body
IsKeptIn-types_stay classes types name ty new_type body typed kept none = record {
  differs = λ other s occurs far unbound.
      rw (typed, type_stays types ty kept, variable_stays types other s body occurs none) (unbound_differs name ty other s unbound);
}

-- nor where no variable of its name, but of another type, gets its new type
pub IsKeptIn-no_other : (classes : ℕ) (table : List ℕ → Option (List HolType)) (types : List (HolType × HolType)) (name : List ℕ) (ty new_type : HolType) (body : NamedTerm)
    → HasVariables table body → ((s : HolType) → Admits (table name) s → new_type ≡ type_put types s → ty ≡ s)
    → IsKeptIn classes types ((name, ty) ∷ []) name new_type body
IsKeptIn-no_other classes table types name ty new_type body has only = record {
  differs = λ other s occurs far unbound. go (same_variable name new_type other (type_put types s)) other s refl (has.has other s occurs) unbound;
}
  where
    go : (test : Bool) (other : List ℕ) (s : HolType) → same_variable name new_type other (type_put types s) ≡ test → Admits (table other) s
        → binder_index ((name, ty) ∷ []) other s ≡ None → test ≡ false
    go true other s same admitted unbound =
        let named : name ≡ other = same_name name other new_type (type_put types s) same in
        let typed : ty ≡ s = only s (rw named admitted) (same_variable-type name other new_type (type_put types s) same) in
        let differs : same_variable name ty name ty ≡ false = ap (λ v. same_variable name ty v ty) named ∙ ap (λ t. same_variable name ty other t) typed ∙ unbound_differs name ty other s unbound in
        sym (same_variable-self name ty) ∙ differs
    go false other s same admitted unbound = refl

-- nor does one where no variable of its name gets its type
pub IsKeptIn-absent : (classes : ℕ) (table : List ℕ → Option (List HolType)) (types : List (HolType × HolType)) (binders : List Binder) (name : List ℕ) (ty : HolType) (term : NamedTerm)
    → HasVariables table term → ((s : HolType) → Admits (table name) s → ty ≡ type_put types s → ⊥)
    → IsKeptIn classes types binders name ty term
IsKeptIn-absent classes table types binders name ty term has none = record {
  differs = λ other s occurs far unbound. go (same_variable name ty other (type_put types s)) other s refl (has.has other s occurs);
}
  where
    go : (test : Bool) (other : List ℕ) (s : HolType) → same_variable name ty other (type_put types s) ≡ test → Admits (table other) s → test ≡ false
    go true other s same admitted =
        absurd (none s (rw (same_name name other ty (type_put types s) same) admitted) (same_variable-type name other ty (type_put types s) same))
    go false other s same admitted = refl

-- the parts of a term
pub IsKeptIn-function : (classes : ℕ) (types : List (HolType × HolType)) (binders : List Binder) (name : List ℕ) (ty : HolType) (f x whole : NamedTerm)
    → combination f x ≡ whole → IsKeptIn classes types binders name ty whole → IsKeptIn classes types binders name ty f
IsKeptIn-function classes types binders name ty f x whole is kept =
    let of_parts : IsKeptIn classes types binders name ty (combination f x) = rw is kept in
    record { differs = λ other s occurs far unbound. of_parts.differs other s (inl occurs) far unbound }

pub IsKeptIn-argument : (classes : ℕ) (types : List (HolType × HolType)) (binders : List Binder) (name : List ℕ) (ty : HolType) (f x whole : NamedTerm)
    → combination f x ≡ whole → IsKeptIn classes types binders name ty whole → IsKeptIn classes types binders name ty x
IsKeptIn-argument classes types binders name ty f x whole is kept =
    let of_parts : IsKeptIn classes types binders name ty (combination f x) = rw is kept in
    record { differs = λ other s occurs far unbound. of_parts.differs other s (inr occurs) far unbound }

still_unbound : (test : Bool) (index : Option ℕ) → (if test then Some 0 else option_map suc index) ≡ None → index ≡ None
still_unbound true index none = cc
still_unbound false None none = refl
still_unbound false (Some index) none = cc

not_here : (test : Bool) (index : Option ℕ) → (if test then Some 0 else option_map suc index) ≡ None → test ≡ false
not_here true index none = cc
not_here false index none = refl

pub IsKeptIn-body : (classes : ℕ) (types : List (HolType × HolType)) (binders : List Binder) (name : List ℕ) (ty : HolType)
    (bound_name : List ℕ) (bound_type : HolType) (body whole : NamedTerm)
    → abstraction bound_name bound_type body ≡ whole → IsKeptIn classes types binders name ty whole
    → IsKeptIn classes types ((bound_name, bound_type) ∷ binders) name ty body
IsKeptIn-body classes types binders name ty bound_name bound_type body whole is kept =
    let of_parts : IsKeptIn classes types binders name ty (abstraction bound_name bound_type body) = rw is kept in
    record {
      differs = λ other s occurs far unbound.
          of_parts.differs other s (occurs, not_here (same_variable bound_name bound_type other s) (binder_index binders other s) unbound) far
          (still_unbound (same_variable bound_name bound_type other s) (binder_index binders other s) unbound);
    }

pub IsBroughtBy-function : (classes : ℕ) (env : List Entry) (binders : List Binder) (name : List ℕ) (ty : HolType) (f x whole : NamedTerm)
    → combination f x ≡ whole → IsBroughtBy classes env binders name ty whole → IsBroughtBy classes env binders name ty f
IsBroughtBy-function classes env binders name ty f x whole is brought =
    let of_parts : IsBroughtBy classes env binders name ty (combination f x) = rw is brought in
    record { absent = λ other s new occurs far unbound looked. of_parts.absent other s new (inl occurs) far unbound looked }

pub IsBroughtBy-argument : (classes : ℕ) (env : List Entry) (binders : List Binder) (name : List ℕ) (ty : HolType) (f x whole : NamedTerm)
    → combination f x ≡ whole → IsBroughtBy classes env binders name ty whole → IsBroughtBy classes env binders name ty x
IsBroughtBy-argument classes env binders name ty f x whole is brought =
    let of_parts : IsBroughtBy classes env binders name ty (combination f x) = rw is brought in
    record { absent = λ other s new occurs far unbound looked. of_parts.absent other s new (inr occurs) far unbound looked }

pub IsBroughtBy-body : (classes : ℕ) (env : List Entry) (binders : List Binder) (name : List ℕ) (ty : HolType)
    (bound_name : List ℕ) (bound_type : HolType) (body whole : NamedTerm)
    → abstraction bound_name bound_type body ≡ whole → IsBroughtBy classes env binders name ty whole
    → IsBroughtBy classes env ((bound_name, bound_type) ∷ binders) name ty body
IsBroughtBy-body classes env binders name ty bound_name bound_type body whole is brought =
    let of_parts : IsBroughtBy classes env binders name ty (abstraction bound_name bound_type body) = rw is brought in
    record {
      absent = λ other s new occurs far unbound looked.
          of_parts.absent other s new (occurs, not_here (same_variable bound_name bound_type other s) (binder_index binders other s) unbound) far
          (still_unbound (same_variable bound_name bound_type other s) (binder_index binders other s) unbound) looked;
    }

pub IsBroughtBy-variable : (classes : ℕ) (env : List Entry) (binders : List Binder) (name : List ℕ) (ty : HolType) (other : List ℕ) (s : HolType) (whole : NamedTerm)
    → variable other s ≡ whole → IsBroughtBy classes env binders name ty whole → IsBroughtBy classes env binders name ty (variable other s)
IsBroughtBy-variable classes env binders name ty other s whole is brought = rw is brought

-- a variable of a term that lacks some classes has none of them
variable_apart : (classes : ℕ) (name : List ℕ) (ty : HolType) (term : NamedTerm) → IsFreeIn name ty term → bit_and classes (classes_of_names term) ≡ 0
    → bit_and classes (class_of_name name) ≡ 0
variable_apart classes name ty (variable other s) occurs apart = ap (λ n. bit_and classes (class_of_name n)) occurs.0 ∙ apart
variable_apart classes name ty (constant other s) occurs apart = absurd occurs
variable_apart classes name ty (combination f x) (inl occurs) apart =
    variable_apart classes name ty f occurs (apart_from_first classes (classes_of_names f) (classes_of_names x) apart)
variable_apart classes name ty (combination f x) (inr occurs) apart =
    variable_apart classes name ty x occurs (apart_from_second classes (classes_of_names f) (classes_of_names x) apart)
variable_apart classes name ty (abstraction other s body) occurs apart = variable_apart classes name ty body occurs.0 apart

-- what stands for a variable of no class that is sought lacks the variable
instance-apart : (env : List Entry) (types : List (HolType × HolType)) (binders : List Binder) (brought : ℕ) (other : List ℕ) (s : HolType) (name : List ℕ) (ty : HolType)
    (whole : NamedTerm) → IsBroughtBy brought env binders name ty whole → IsFreeIn other s whole → bit_and brought (class_of_name other) ≡ 0 → binder_index binders other s ≡ None
    → same_variable name ty other (type_put types s) ≡ false
    → occurs_free name ty (instance_of env types other s) ≡ false
instance-apart env types binders brought other s name ty whole is occurs far unbound differs = go (looked_up env other s) refl
  where
    go : (found : Option NamedTerm) → looked_up env other s ≡ found → occurs_free name ty (option_map_or image found (free other (type_put types s))) ≡ false
    go None looked = differs
    go (Some term) looked = occurs_free-image name ty term ∙ is.absent other s term occurs far unbound looked

neither : (p q : Bool) → p ≡ false → q ≡ false → (p || q) ≡ false
neither p q first second = cc

-- a variable that stands for no free variable of a term is not free after the replacement
nowhere : (env : List Entry) (types : List (HolType × HolType)) (name : List ℕ) (ty : HolType) (term : NamedTerm) (binders : List Binder)
    → ((other : List ℕ) (s : HolType) → IsFreeIn other s term → binder_index binders other s ≡ None → occurs_free name ty (instance_of env types other s) ≡ false)
    → occurs_free name ty (replaced env types (image_under binders term)) ≡ false
nowhere env types name ty (variable other s) binders none = go (binder_index binders other s) refl
  where
    go : (index : Option ℕ) → binder_index binders other s ≡ index
        → occurs_free name ty (mapped (instance_of env types) (type_put types) (option_map_or bound index (free other s))) ≡ false
    go None is = none other s (refl, refl) is
    go (Some index) is = refl
nowhere env types name ty (constant other s) binders none = refl
nowhere env types name ty (combination f x) binders none =
    neither (occurs_free name ty (replaced env types (image_under binders f))) (occurs_free name ty (replaced env types (image_under binders x)))
    (nowhere env types name ty f binders (λ other s occurs unbound. none other s (inl occurs) unbound))
    (nowhere env types name ty x binders (λ other s occurs unbound. none other s (inr occurs) unbound))
nowhere env types name ty (abstraction bound_name bound_type body) binders none =
    nowhere env types name ty body ((bound_name, bound_type) ∷ binders)
    (λ other s occurs unbound.
    none other s (occurs, not_here (same_variable bound_name bound_type other s) (binder_index binders other s) unbound)
    (still_unbound (same_variable bound_name bound_type other s) (binder_index binders other s) unbound))

-- nor is it where the term lacks the classes that are sought
pub apart-after : (env : List Entry) (types : List (HolType × HolType)) (brought kept : ℕ) (term : NamedTerm) (binders : List Binder) (name : List ℕ) (ty : HolType)
    → IsBroughtBy brought env binders name ty term → IsKeptIn kept types binders name ty term → is_apart brought kept term ≡ true
    → occurs_free name ty (replaced env types (image_under binders term)) ≡ false
apart-after env types brought kept term binders name ty is_brought is_kept passed =
    nowhere env types name ty term binders
    (λ other s occurs unbound.
    let far : bit_and (bit_or brought kept) (class_of_name other) ≡ 0 =
    variable_apart (bit_or brought kept) other s term occurs
    (nothing_common (bit_or brought kept) (classes_of_names term) (failed (have_common_class (bit_or brought kept) (classes_of_names term)) passed)) in
    instance-apart env types binders brought other s name ty term is_brought occurs (first_apart brought kept (class_of_name other) far) unbound
    (is_kept.differs other s occurs (second_apart brought kept (class_of_name other) far) unbound))
  where
    failed : (p : Bool) → not p ≡ true → p ≡ false
    failed true is = cc
    failed false is = refl

-- the same of one variable, from what tests answer
pub variable-apart : (env : List Entry) (types : List (HolType × HolType)) (binders : List Binder) (brought class : ℕ) (other : List ℕ) (s : HolType) (name : List ℕ) (ty : HolType)
    → IsBroughtBy brought env binders name ty (variable other s) → class ≡ class_of_name other → have_common_class brought class ≡ false
    → same_variable name ty other (type_put types s) ≡ false
    → occurs_free name ty (replaced env types (image_under binders (variable other s))) ≡ false
variable-apart env types binders brought class other s name ty is is_class apart differs = go (binder_index binders other s) refl
  where
    go : (index : Option ℕ) → binder_index binders other s ≡ index
        → occurs_free name ty (mapped (instance_of env types) (type_put types) (option_map_or bound index (free other s))) ≡ false
    go None unbound =
        instance-apart env types binders brought other s name ty (variable other s) is (refl, refl) (ap (bit_and brought) (sym is_class) ∙ nothing_common brought class apart) unbound differs
    go (Some index) is = refl

pub ruleset bringing_classes = (
  IsBroughtFrom-none,
  IsBroughtFrom-keeping,
  IsBroughtFrom-beside,
  IsBroughtFrom-bound,
  IsBroughtFrom-unknown,
  IsBroughtFrom-putting,
  IsBroughtFrom-pairs,
)

pub ruleset keeping_classes = (IsBroughtBy-from, IsKeptIn-name, IsKeptIn-types_stay, IsKeptIn-no_other, IsKeptIn-absent)

pub ruleset seeking = (apart-after, IsBroughtBy-function, IsBroughtBy-argument, IsBroughtBy-body, IsBroughtBy-variable, IsKeptIn-function, IsKeptIn-argument, IsKeptIn-body)

pub ruleset standing_for = (variable-apart)
