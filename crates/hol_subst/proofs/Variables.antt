-- What is known of the types of variables.
use Rattle.std.proofs.Common.{◌≡◌, ◌⊎◌, inl, inr, ℕ, suc, List, [], ◌∷◌, ◌++◌, Bool, true, false, not, ◌&&◌, cond, Some, None, refl, sym, ◌∙◌, ap, subst, Vec, Global}
use Rattle.std.specs.Prelude.{Option, Contains, if◌then◌else◌}
use Rattle.std.specs.List.{list_any}
use Rattle.std.specs.Option.{option_map, is_some}
use Rattle.std.specs.Str.{bytes_eq}
use Rattle.std.proofs.lemmas.List.Elements.{Contains-append_left, Contains-push, Contains-push_cases}
use Rattle.std.proofs.lemmas.List.Folds.{list_any_at}
use Rattle.std.proofs.lemmas.Map.Views.{Contains-from_any}
use Rattle.std.proofs.lemmas.Slice.Eq.{bytes_eq-Decides}
use Rattle.hol_model.specs.Terms.HolType.{HolType, type_eq, type_put}
use Rattle.hol_model.specs.Terms.NamedTerm.{NamedTerm, variable, constant, combination, abstraction, Binder, same_variable}
use Rattle.hol_model.specs.Terms.Nameless.{binder_index}
use Rattle.hol_model.proofs.Terms.HolTypeEq.{same_from_type_eq, type_eq-self}
use Rattle.hol_model.proofs.Tests.{same_answer, first_of_both, same_name, same_variable-type, same_variable-self}
use Rattle.hol_subst.specs.Occurrences.{IsFreeIn}
use Rattle.hol_subst.specs.VariableTypes.{Admits, Widens, HasVariables, HasUnbound, Grows, types_kept, kept_types, table_with, admits}

abbrev Table : Type 0
Table = List ℕ → Option (List HolType)

abbrev Entries : Type 0
Entries = List ℕ → Option (Option (Vec HolType Global))

-- a type that may be any, or that is found among those that are known
pub Admits-any : (known : Option (List HolType)) (ty : HolType) → None ≡ known → Admits known ty
Admits-any known ty is = subst (λ types. Admits types ty) is tt

pub Admits-found : (listed : List HolType) (known : Option (List HolType)) (ty : HolType) → Some listed ≡ known → list_any (type_eq ty) listed ≡ true → Admits known ty
Admits-found listed known ty is found = subst (λ types. Admits types ty) is (Contains-from_any same_from_type_eq ty listed found)

-- the test answers so
test_admits : (known : Option (List HolType)) (ty : HolType) → admits known ty ≡ true → Admits known ty
test_admits None ty is = tt
test_admits (Some listed) ty is = Contains-from_any same_from_type_eq ty listed is

pub admitted_test : (known : Option (List HolType)) (ty : HolType) → Admits known ty → admits known ty ≡ true
admitted_test None ty admitted = refl
admitted_test (Some listed) ty admitted = list_any_at (type_eq ty) listed admitted.0 ty admitted.1 (ap (type_eq ty) admitted.2 ∙ type_eq-self ty)

-- one more type
pub Contains-more : (more listed : List HolType) (ty : HolType) → more ≡ listed ++ ty ∷ [] → Contains more ty
Contains-more more listed ty is = rw is (Contains-push listed ty)

pub Widens-more : (more listed : List HolType) (known : Option (List HolType)) (ty : HolType) → Some listed ≡ known → more ≡ listed ++ ty ∷ [] → Widens known (Some more)
Widens-more more listed known ty is added = rw (← is) (record { kept = λ other admitted. rw added (Contains-append_left listed (ty ∷ []) other admitted) })

pub Widens-any : (known : Option (List HolType)) → Widens known None
Widens-any known = record { kept = λ ty admitted. tt }

-- where no type of a list passes a test, each fails it
fails_for : (test : HolType → Bool) (listed : List HolType) (ty : HolType) → list_any test listed ≡ false → Contains listed ty → test ty ≡ false
fails_for test listed ty none found = go (test ty) refl
  where
    go : (passed : Bool) → test ty ≡ passed → passed ≡ false
    go true is = sym (list_any_at test listed found.0 ty found.1 (ap test found.2 ∙ is)) ∙ none
    go false is = refl

-- where no type that is known becomes a type, none that is admitted does
pub becomes_none : (listed : List HolType) (known : Option (List HolType)) (types : List (HolType × HolType)) (ty : HolType) → Some listed ≡ known
    → list_any (λ s. type_eq ty (type_put types s)) listed ≡ false
    → (s : HolType) → Admits known s → ty ≡ type_put types s → ⊥
becomes_none listed known types ty is none s admitted becomes =
    let failed : type_eq ty (type_put types s) ≡ false =
    fails_for (λ other. type_eq ty (type_put types other)) listed s none (subst (λ found. Admits found s) (sym is) admitted) in
    let passed : type_eq ty (type_put types s) ≡ true = rw (← becomes) (type_eq-self ty) in
    let clash : true ≡ false = sym passed ∙ failed in
    cc

-- the same, but for one
pub becomes_no_other : (listed : List HolType) (known : Option (List HolType)) (types : List (HolType × HolType)) (ty new : HolType) → Some listed ≡ known
    → list_any (λ s. not (type_eq s ty) && type_eq new (type_put types s)) listed ≡ false
    → (s : HolType) → Admits known s → new ≡ type_put types s → ty ≡ s
becomes_no_other listed known types ty new is none s admitted becomes =
    go (type_eq s ty) refl
    (fails_for (λ other. not (type_eq other ty) && type_eq new (type_put types other)) listed s none (subst (λ found. Admits found s) (sym is) admitted))
  where
    go : (test : Bool) → type_eq s ty ≡ test → (not test && type_eq new (type_put types s)) ≡ false → ty ≡ s
    go true same failed = sym (same_from_type_eq s ty same)
    go false differs failed =
        let passed : type_eq new (type_put types s) ≡ true = rw (← becomes) (type_eq-self new) in
        let clash : true ≡ false = sym passed ∙ failed in
        cc

-- a table that grows
pub Grows-itself : (table : Table) → Grows table table
Grows-itself table = record { kept = λ name. record { kept = λ ty admitted. admitted } }

pub Grows-twice : (old mid new : Table) → Grows old mid → Grows mid new → Grows old new
Grows-twice old mid new first second = record { kept = λ name. record { kept = λ ty admitted. (second.kept name).kept ty ((first.kept name).kept ty admitted) } }

-- a name that gets more types
pub Grows-noting : (old new : Entries) (name : List ℕ) (noted : Option (Vec HolType Global)) → ((other : List ℕ) → new other ≡ cond (bytes_eq name other) (Some noted) (old other))
    → Widens (types_kept (old name)) (types_kept (Some noted)) → Grows (kept_types old) (kept_types new)
Grows-noting old new name noted update widens = record {
  kept = λ other. subst (λ found. Widens (types_kept (old other)) (types_kept found)) (sym (update other)) (go (bytes_eq name other) other refl);
}
  where
    go : (test : Bool) (other : List ℕ) → bytes_eq name other ≡ test → Widens (types_kept (old other)) (types_kept (cond test (Some noted) (old other)))
    go true other same =
        subst (λ asked. Widens (types_kept (old asked)) (types_kept (Some noted))) ((bytes_eq-Decides name other).0 same) widens
    go false other same = record { kept = λ ty admitted. admitted }

-- a table that has the variables of a term
pub HasVariables-later : (old new : Table) (term : NamedTerm) → HasVariables old term → Grows old new → HasVariables new term
HasVariables-later old new term has grows = record { has = λ name ty occurs. (grows.kept name).kept ty (has.has name ty occurs) }

pub HasVariables-variable : (table : Table) (name : List ℕ) (ty : HolType) (whole : NamedTerm) → variable name ty ≡ whole → Admits (table name) ty
    → HasVariables table whole
HasVariables-variable table name ty whole is admitted =
    rw (← is) (record { has = λ other s occurs. rw (occurs.0, occurs.1) admitted })

pub HasVariables-constant : (table : Table) (name : List ℕ) (ty : HolType) (whole : NamedTerm) → constant name ty ≡ whole → HasVariables table whole
HasVariables-constant table name ty whole is = rw (← is) (record { has = λ other s occurs. absurd occurs })

pub HasVariables-combination : (table : Table) (f x whole : NamedTerm) → combination f x ≡ whole → HasVariables table f → HasVariables table x
    → HasVariables table whole
HasVariables-combination table f x whole is first second = rw (← is) (record { has = λ name ty occurs. go name ty occurs })
  where
    go : (name : List ℕ) (ty : HolType) → IsFreeIn name ty f ⊎ IsFreeIn name ty x → Admits (table name) ty
    go name ty (inl occurs) = first.has name ty occurs
    go name ty (inr occurs) = second.has name ty occurs

pub HasVariables-abstraction : (table : Table) (name : List ℕ) (ty : HolType) (body whole : NamedTerm) → abstraction name ty body ≡ whole → HasVariables table body
    → HasVariables table whole
HasVariables-abstraction table name ty body whole is has = rw (← is) (record { has = λ other s occurs. has.has other s occurs.0 })

-- the parts of a term
pub HasVariables-function : (table : Table) (f x whole : NamedTerm) → combination f x ≡ whole → HasVariables table whole → HasVariables table f
HasVariables-function table f x whole is has =
    let of_parts : HasVariables table (combination f x) = rw is has in
    record { has = λ name ty occurs. of_parts.has name ty (inl occurs) }

pub HasVariables-argument : (table : Table) (f x whole : NamedTerm) → combination f x ≡ whole → HasVariables table whole → HasVariables table x
HasVariables-argument table f x whole is has =
    let of_parts : HasVariables table (combination f x) = rw is has in
    record { has = λ name ty occurs. of_parts.has name ty (inr occurs) }

-- a table with one more type of a name
abbrev widened : Option (List HolType) → HolType → Option (List HolType)
widened known ty = option_map (λ listed. listed ++ ty ∷ []) known

Admits-more : (known : Option (List HolType)) (ty s : HolType) → Admits known s → Admits (widened known ty) s
Admits-more None ty s admitted = tt
Admits-more (Some listed) ty s admitted = Contains-append_left listed (ty ∷ []) s admitted

Admits-last : (known : Option (List HolType)) (ty : HolType) → Admits (widened known ty) ty
Admits-last None ty = tt
Admits-last (Some listed) ty = Contains-push listed ty

Admits-more_cases : (known : Option (List HolType)) (ty s : HolType) → Admits (widened known ty) s → Admits known s ⊎ (ty ≡ s)
Admits-more_cases None ty s admitted = inl tt
Admits-more_cases (Some listed) ty s admitted = Contains-push_cases listed ty s admitted

pub Admits-with_here : (table : Table) (other : List ℕ) (t : HolType) (name : List ℕ) (ty : HolType) → same_variable other t name ty ≡ true
    → Admits (table_with other t table name) ty
Admits-with_here table other t name ty same = go (bytes_eq other name) (first_of_both (bytes_eq other name) (type_eq t ty) same)
  where
    go : (test : Bool) → test ≡ true → Admits (if test then widened (table name) t else table name) ty
    go true is = subst (λ s. Admits (widened (table name) t) s) (same_variable-type other name t ty same) (Admits-last (table name) t)
    go false is = cc

pub Admits-with_later : (table : Table) (other : List ℕ) (t : HolType) (name : List ℕ) (ty : HolType) → Admits (table name) ty
    → Admits (table_with other t table name) ty
Admits-with_later table other t name ty admitted = go (bytes_eq other name)
  where
    go : (test : Bool) → Admits (if test then widened (table name) t else table name) ty
    go true = Admits-more (table name) t ty admitted
    go false = admitted

Admits-with_cases : (table : Table) (other : List ℕ) (t : HolType) (name : List ℕ) (ty : HolType) → Admits (table_with other t table name) ty
    → Admits (table name) ty ⊎ ((other ≡ name) × (t ≡ ty))
Admits-with_cases table other t name ty = go (bytes_eq other name) refl
  where
    go : (test : Bool) → bytes_eq other name ≡ test → Admits (if test then widened (table name) t else table name) ty
        → Admits (table name) ty ⊎ ((other ≡ name) × (t ≡ ty))
    go true same admitted = named (Admits-more_cases (table name) t ty admitted)
      where
        named : Admits (table name) ty ⊎ (t ≡ ty) → Admits (table name) ty ⊎ ((other ≡ name) × (t ≡ ty))
        named (inl before) = inl before
        named (inr typed) = inr ((bytes_eq-Decides other name).0 same, typed)
    go false same admitted = inl admitted

-- the test under one more type
pub admits_here : (table : Table) (other : List ℕ) (t : HolType) (name : List ℕ) (ty : HolType) → same_variable other t name ty ≡ true
    → admits (table_with other t table name) ty ≡ true
admits_here table other t name ty same = admitted_test (table_with other t table name) ty (Admits-with_here table other t name ty same)

pub admits_later : (table : Table) (other : List ℕ) (t : HolType) (name : List ℕ) (ty : HolType) → same_variable other t name ty ≡ false
    → admits (table name) ty ≡ admits (table_with other t table name) ty
admits_later table other t name ty differs =
    same_answer (admits (table name) ty) (admits (table_with other t table name) ty)
    (λ passed. admitted_test (table_with other t table name) ty (Admits-with_later table other t name ty (test_admits (table name) ty passed)))
    (λ passed. back (Admits-with_cases table other t name ty (test_admits (table_with other t table name) ty passed)))
  where
    back : Admits (table name) ty ⊎ ((other ≡ name) × (t ≡ ty)) → admits (table name) ty ≡ true
    back (inl before) = admitted_test (table name) ty before
    back (inr same) =
        let passed : same_variable other t name ty ≡ true = rw (same.0, same.1) (same_variable-self name ty) in
        let clash : true ≡ false = sym passed ∙ differs in
        cc

-- where the one more type does not become a type either, none does
pub none_with : (table : Table) (other : List ℕ) (t : HolType) (types : List (HolType × HolType)) (name : List ℕ) (ty : HolType)
    → same_variable name ty other (type_put types t) ≡ false
    → ((s : HolType) → Admits (table name) s → ty ≡ type_put types s → ⊥)
    → (s : HolType) → Admits (table_with other t table name) s → ty ≡ type_put types s → ⊥
none_with table other t types name ty differs none s admitted becomes = go (Admits-with_cases table other t name s admitted)
  where
    go : Admits (table name) s ⊎ ((other ≡ name) × (t ≡ s)) → ⊥
    go (inl before) = none s before becomes
    go (inr same) =
        let passed : same_variable name ty other (type_put types t) ≡ true = rw (same.0, same.1, ← becomes) (same_variable-self name ty) in
        let clash : true ≡ false = sym passed ∙ differs in
        cc

-- the same, but for one
pub no_other_with : (table : Table) (other : List ℕ) (t : HolType) (types : List (HolType × HolType)) (name : List ℕ) (ty new : HolType)
    → (not (type_eq t ty) && same_variable name new other (type_put types t)) ≡ false
    → ((s : HolType) → Admits (table name) s → new ≡ type_put types s → ty ≡ s)
    → (s : HolType) → Admits (table_with other t table name) s → new ≡ type_put types s → ty ≡ s
no_other_with table other t types name ty new differs only s admitted becomes = go (Admits-with_cases table other t name s admitted)
  where
    at_test : (test : Bool) → type_eq t ty ≡ test → (not test && same_variable name new other (type_put types t)) ≡ false
        → other ≡ name → t ≡ s → ty ≡ s
    at_test true same none named typed = sym (same_from_type_eq t ty same) ∙ typed
    at_test false same none named typed =
        let passed : same_variable name new other (type_put types t) ≡ true = rw (named, typed, ← becomes) (same_variable-self name new) in
        let clash : true ≡ false = sym passed ∙ none in
        cc

    go : Admits (table name) s ⊎ ((other ≡ name) × (t ≡ s)) → ty ≡ s
    go (inl before) = only s before becomes
    go (inr same) = at_test (type_eq t ty) refl differs same.0 same.1

-- the body of an abstraction, whose variable is known or gets known
pub HasVariables-known : (table : Table) (name : List ℕ) (ty : HolType) (body whole : NamedTerm) → abstraction name ty body ≡ whole → HasVariables table whole
    → admits (table name) ty ≡ true → HasVariables table body
HasVariables-known table name ty body whole is has passed =
    let known : Admits (table name) ty = test_admits (table name) ty passed in
    let of_parts : HasVariables table (abstraction name ty body) = rw is has in
    record { has = λ other s occurs. go other s (same_variable name ty other s) refl occurs of_parts known }
  where
    go : (other : List ℕ) (s : HolType) (test : Bool) → same_variable name ty other s ≡ test → IsFreeIn other s body
        → HasVariables table (abstraction name ty body) → Admits (table name) ty → Admits (table other) s
    go other s true same occurs of_parts known = rw (← same_name name other ty s same, ← same_variable-type name other ty s same) known
    go other s false differs occurs of_parts known = of_parts.has other s (occurs, differs)

pub HasVariables-body : (table : Table) (name : List ℕ) (ty : HolType) (body whole : NamedTerm) → abstraction name ty body ≡ whole → HasVariables table whole
    → HasVariables (table_with name ty table) body
HasVariables-body table name ty body whole is has =
    let of_parts : HasVariables table (abstraction name ty body) = rw is has in
    record { has = λ other s occurs. go other s (same_variable name ty other s) refl occurs of_parts }
  where
    go : (other : List ℕ) (s : HolType) (test : Bool) → same_variable name ty other s ≡ test → IsFreeIn other s body
        → HasVariables table (abstraction name ty body) → Admits (table_with name ty table other) s
    go other s true same occurs of_parts = Admits-with_here table name ty other s same
    go other s false differs occurs of_parts = Admits-with_later table name ty other s (of_parts.has other s (occurs, differs))

-- a table that has the variables of a term but for those that binders bind
pub HasUnbound-later : (old new : Table) (binders : List Binder) (term : NamedTerm) → HasUnbound old binders term → Grows old new → HasUnbound new binders term
HasUnbound-later old new binders term has grows =
    record { has = λ name ty occurs unbound. (grows.kept name).kept ty (has.has name ty occurs unbound) }

pub HasUnbound-variable : (table : Table) (binders : List Binder) (name : List ℕ) (ty : HolType) → Admits (table name) ty → HasUnbound table binders (variable name ty)
HasUnbound-variable table binders name ty admitted = record { has = λ other s occurs unbound. rw (occurs.0, occurs.1) admitted }

pub HasUnbound-bound : (table : Table) (binders : List Binder) (name : List ℕ) (ty : HolType) → is_some (binder_index binders name ty) ≡ true
    → HasUnbound table binders (variable name ty)
HasUnbound-bound table binders name ty bound =
    record {
      has = λ other s occurs unbound.
          let here : binder_index binders name ty ≡ None = rw (← occurs.0, ← occurs.1) unbound in
          let clash : true ≡ false = sym bound ∙ ap is_some here in
          cc;
    }

pub HasUnbound-whole : (table : Table) (binders : List Binder) (term whole : NamedTerm) → term ≡ whole → HasUnbound table binders term → HasUnbound table binders whole
HasUnbound-whole table binders term whole is has = rw (← is) has

pub HasUnbound-constant : (table : Table) (binders : List Binder) (name : List ℕ) (ty : HolType) (whole : NamedTerm) → constant name ty ≡ whole
    → HasUnbound table binders whole
HasUnbound-constant table binders name ty whole is = rw (← is) (record { has = λ other s occurs unbound. absurd occurs })

pub HasUnbound-combination : (table : Table) (binders : List Binder) (f x whole : NamedTerm) → combination f x ≡ whole → HasUnbound table binders f
    → HasUnbound table binders x → HasUnbound table binders whole
HasUnbound-combination table binders f x whole is first second = rw (← is) (record { has = λ name ty occurs unbound. go name ty occurs unbound })
  where
    go : (name : List ℕ) (ty : HolType) → IsFreeIn name ty f ⊎ IsFreeIn name ty x → binder_index binders name ty ≡ None → Admits (table name) ty
    go name ty (inl occurs) unbound = first.has name ty occurs unbound
    go name ty (inr occurs) unbound = second.has name ty occurs unbound

pub HasUnbound-abstraction : (table : Table) (binders : List Binder) (name : List ℕ) (ty : HolType) (body whole : NamedTerm) → abstraction name ty body ≡ whole
    → HasUnbound table ((name, ty) ∷ binders) body → HasUnbound table binders whole
HasUnbound-abstraction table binders name ty body whole is has =
    rw (← is)
    (record { has = λ other s occurs unbound. has.has other s occurs.0 (passed_over (same_variable name ty other s) (binder_index binders other s) occurs.1 unbound) })
  where
    passed_over : (test : Bool) (index : Option ℕ) → test ≡ false → index ≡ None → (if test then Some 0 else option_map suc index) ≡ None
    passed_over true index differs none = cc
    passed_over false index differs none = ap (option_map suc) none

pub HasVariables-unbound : (table : Table) (term : NamedTerm) → HasUnbound table [] term → HasVariables table term
HasVariables-unbound table term has = record { has = λ name ty occurs. has.has name ty occurs refl }

pub ruleset known_types = (Admits-any, Admits-found, Contains-more, Widens-more, Widens-any)

pub ruleset tables = (Grows-itself, Grows-twice, HasVariables-later, HasVariables-variable, HasVariables-constant, HasVariables-combination, HasVariables-abstraction)

pub ruleset parts = (HasVariables-function, HasVariables-argument)

pub ruleset free_tables = (
  Grows-itself,
  Grows-twice,
  HasUnbound-later,
  HasUnbound-variable,
  HasUnbound-bound,
  HasUnbound-whole,
  HasUnbound-constant,
  HasUnbound-combination,
  HasUnbound-abstraction,
  HasVariables-unbound,
)

pub ruleset under_binders = (HasVariables-known, HasVariables-body)

pub ruleset known_with = (admits_here, admits_later, none_with, no_other_with)
