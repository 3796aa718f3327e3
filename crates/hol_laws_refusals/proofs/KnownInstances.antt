-- What is put for the variables of a known formula by lists of replacements leaves it known.
use Rattle.std.proofs.Common.{◌≡◌, ◌⊎◌, ℕ, List, [], ◌∷◌, Bool, true, false, ◌||◌, refl, sym, ◌∙◌, subst, inl, inr, Option, Some, None}
use Rattle.std.specs.Prelude.{find, cond}
use Rattle.std.specs.List.{list_all}
use Rattle.std.specs.Option.{option_map_or}
use Rattle.hol_model.specs.Terms.HolType.{HolType, type_variable, bool_type, function_type, declared_type, type_eq, TypeInstance, instantiate_type, type_instance_of, replaces_type_variables}
use Rattle.hol_model.specs.Terms.HolType.{OccursInType}
use Rattle.hol_model.specs.Terms.NamedTerm.{NamedTerm, variable, constant, combination, abstraction}
use Rattle.hol_model.specs.Terms.Nameless.{Nameless, free, const, bound, app, lam, HasType, image, nameless_type}
use Rattle.hol_model.specs.Terms.Substitution.{TermInstance, put, instantiate, replacement, replaces_variables, is_variable_named, occurs_free, OccursInTerm}
use Rattle.hol_model.specs.Logic.Theory.{Theory, IsKnown, IsKnownType, HasKnownParts}
use Rattle.hol_model.specs.Logic.KnownTerm.{knows_type}
use Rattle.hol_model.specs.Logic.Checks.{knows_nameless}
use Rattle.hol_model.specs.Logic.Derivable.{IsMember, MayReplace}
use Rattle.hol_model.specs.Derived.Inference.{may_replace, may_replace_types, inst_term, inst_type_term}
use Rattle.hol_model.specs.Rewrites.Matching.{Matches}
use Rattle.hol_model.specs.Rewrites.Rewriting.{Replacements, replaced}
use Rattle.hol_model.proofs.Tests.{same_name, same_variable-type, second_of_both}
use Rattle.hol_model.proofs.Logic.Checks.{knows_nameless-Decides}
use Rattle.hol_model.proofs.Logic.Known.{IsKnown-type, put-known, instantiate-known}
use Rattle.hol_model.proofs.Terms.HolTypeEq.{type_eq-Decides}
use Rattle.hol_model.proofs.Terms.TypeTests.{knows_type-Decides}
use Rattle.hol_laws_steps.proofs.Members.{list_all-member}

-- ---- the first of a list that passes a test

record IsFound {A : Type 0} (test : A → Bool) (xs : List A) (x : A) : Type 0 where
  member : IsMember x xs
  passes : test x ≡ true

found : {A : Type 0} (test : A → Bool) (xs : List A) (x : A) → find test xs ≡ Some x → IsFound test xs x
found {A = A} test [] x is = cc
found {A = A} test (y ∷ ys) x is = go (test y) refl is (found test ys x)
  where
    go : (passed : Bool) → test y ≡ passed → cond passed (Some y) (find test ys) ≡ Some x → (find test ys ≡ Some x → IsFound test ys x) → IsFound test (y ∷ ys) x
    go true tested is deeper = let same : y ≡ x = cc in record { member = inl (sym same); passes = subst (λ (z : A). test z ≡ true) same tested }
    go false tested is deeper = let there = deeper is in record { member = inr there.member; passes = there.passes }

-- the variable of this name and type
named-variable : (name : List ℕ) (ty : HolType) (term : NamedTerm) → is_variable_named name ty term ≡ true → term ≡ variable name ty
named-variable name ty (variable other s) is = λ i. variable (same_name other name s ty is i) (same_variable-type other name s ty is i)
named-variable name ty (constant other s) is = cc
named-variable name ty (combination f x) is = cc
named-variable name ty (abstraction other s body) is = cc

module _ (theory : Theory) where
  -- ---- lists of replacements

  -- each term that a list puts for a variable is known, and of its type
  abbrev pub PutsKnown : List (NamedTerm × NamedTerm) → Type 0
  PutsKnown theta = (name : List ℕ) (ty : HolType) (pair : NamedTerm × NamedTerm) → IsMember pair theta → pair.1 ≡ variable name ty
      → find (λ other. is_variable_named name ty other.1) theta ≡ Some pair → IsKnown theory (image pair.0) ty

  pub may-replace : (theta : List (NamedTerm × NamedTerm)) → PutsKnown theta → MayReplace theory (replacement theta)
  may-replace theta puts name ty = go (find (λ pair. is_variable_named name ty pair.1) theta) refl
    where
      go : (first : Option (NamedTerm × NamedTerm)) → find (λ pair. is_variable_named name ty pair.1) theta ≡ first
          → IsKnown theory (option_map_or (λ pair. image pair.0) first (free name ty)) ty ⊎ (option_map_or (λ pair. image pair.0) first (free name ty) ≡ free name ty)
      go None is = inr refl
      go (Some pair) is =
          let there = found (λ (other : NamedTerm × NamedTerm). is_variable_named name ty other.1) theta pair is in
          inl (puts name ty pair there.member (named-variable name ty pair.1 there.passes) is)

  abbrev pub PutsKnownTypes : List (HolType × HolType) → Type 0
  PutsKnownTypes theta =
      (name : List ℕ) (pair : HolType × HolType) → IsMember pair theta → pair.1 ≡ type_variable name
      → find (λ other. type_eq other.1 (type_variable name)) theta ≡ Some pair → IsKnownType theory pair.0

  pub types-known : (theta : List (HolType × HolType)) → PutsKnownTypes theta → (name : List ℕ) → IsKnownType theory (type_instance_of theta name)
  types-known theta puts name = go (find (λ pair. type_eq pair.1 (type_variable name)) theta) refl
    where
      go : (first : Option (HolType × HolType)) → find (λ pair. type_eq pair.1 (type_variable name)) theta ≡ first
          → IsKnownType theory (option_map_or (λ pair. pair.0) first (type_variable name))
      go None is = tt
      go (Some pair) is =
          let there = found (λ (other : HolType × HolType). type_eq other.1 (type_variable name)) theta pair is in
          puts name pair there.member ((type_eq-Decides pair.1 (type_variable name)).0 there.passes) is

  -- ---- INST and INST_TYPE

  pub inst-known : (theta : List (NamedTerm × NamedTerm)) (t : Nameless) → may_replace theory theta ≡ true → IsKnown theory t bool_type → IsKnown theory (inst_term theta t) bool_type
  inst-known theta t may known =
      let passes : list_all (λ pair. knows_nameless theory (image pair.0) (nameless_type [] (image pair.1))) theta ≡ true =
      second_of_both (replaces_variables theta) (list_all (λ pair. knows_nameless theory (image pair.0) (nameless_type [] (image pair.1))) theta) may in
      put-known theory (replacement theta) (may-replace theta (λ name ty pair member is first.
      subst (λ (old : NamedTerm). IsKnown theory (image pair.0) (nameless_type [] (image old))) is
      ((knows_nameless-Decides theory (image pair.0) (nameless_type [] (image pair.1))).0
      (list_all-member (λ (other : NamedTerm × NamedTerm). knows_nameless theory (image other.0) (nameless_type [] (image other.1))) pair theta passes member)))) t bool_type known

  pub inst_type-known : (theta : List (HolType × HolType)) (t : Nameless) → may_replace_types theory theta ≡ true → IsKnown theory t bool_type → IsKnown theory (inst_type_term theta t) bool_type
  inst_type-known theta t may known =
      let passes : list_all (λ pair. knows_type theory pair.0) theta ≡ true = second_of_both (replaces_type_variables theta) (list_all (λ pair. knows_type theory pair.0) theta) may in
      instantiate-known theory (type_instance_of theta) (types-known theta (λ name pair member is first.
      (knows_type-Decides theory pair.0).0 (list_all-member (λ (other : HolType × HolType). knows_type theory other.0) pair theta passes member))) t bool_type known

  -- ---- matches

  -- what is put for a variable of the pattern is a part of what comes
  put-part : (theta : TermInstance) (name : List ℕ) (ty : HolType) (t : Nameless) → occurs_free name ty t ≡ true → HasKnownParts theory (put theta t) → HasKnownParts theory (theta name ty)
  put-part theta name ty (free other s) occurs parts =
      let same : theta other s ≡ theta name ty = λ i. theta (sym (same_name name other ty s occurs) i) (sym (same_variable-type name other ty s occurs) i) in
      subst (λ (t : Nameless). HasKnownParts theory t) same parts
  put-part theta name ty (const other s) occurs parts = cc
  put-part theta name ty (bound index) occurs parts = cc
  put-part theta name ty (app f x) occurs parts = go (occurs_free name ty f) refl occurs (λ here. put-part theta name ty f here parts.0) (λ here. put-part theta name ty x here parts.1)
    where
      go : (test : Bool) → occurs_free name ty f ≡ test → (test || occurs_free name ty x) ≡ true → (occurs_free name ty f ≡ true → HasKnownParts theory (theta name ty))
          → (occurs_free name ty x ≡ true → HasKnownParts theory (theta name ty)) → HasKnownParts theory (theta name ty)
      go true is occurs first second = first is
      go false is occurs first second = second occurs
  put-part theta name ty (lam s body) occurs parts = put-part theta name ty body occurs parts.1

  -- what is put for a type variable is a part of the types of what comes
  type-part : (tau : TypeInstance) (name : List ℕ) (ty : HolType) → OccursInType name ty → IsKnownType theory (instantiate_type tau ty) → IsKnownType theory (tau name)
  type-part tau name (type_variable other) occurs known = subst (λ (v : List ℕ). IsKnownType theory (tau v)) (sym occurs) known
  type-part tau name bool_type occurs known = absurd occurs
  type-part tau name (function_type a b) (inl occurs) known = type-part tau name a occurs known.0
  type-part tau name (function_type a b) (inr occurs) known = type-part tau name b occurs known.1
  type-part tau name (declared_type other) occurs known = absurd occurs

  term-type-part : (tau : TypeInstance) (theta : TermInstance) → ((name : List ℕ) (ty : HolType) → HasType [] (theta name ty) ty) → (name : List ℕ) (t : Nameless) → OccursInTerm name t
      → HasKnownParts theory (put theta (instantiate tau t)) → IsKnownType theory (tau name)
  term-type-part tau theta typed name (free other ty) occurs parts =
      type-part tau name ty occurs (IsKnown-type theory (theta other (instantiate_type tau ty)) (instantiate_type tau ty) (record { typed = typed other (instantiate_type tau ty); parts = parts }))
  term-type-part tau theta typed name (const other ty) occurs parts = type-part tau name ty occurs parts.0
  term-type-part tau theta typed name (bound index) occurs parts = absurd occurs
  term-type-part tau theta typed name (app f x) (inl occurs) parts = term-type-part tau theta typed name f occurs parts.0
  term-type-part tau theta typed name (app f x) (inr occurs) parts = term-type-part tau theta typed name x occurs parts.1
  term-type-part tau theta typed name (lam ty body) (inl occurs) parts = type-part tau name ty occurs parts.0
  term-type-part tau theta typed name (lam ty body) (inr occurs) parts = term-type-part tau theta typed name body occurs parts.1

  -- the same variable, or type variable
  same-variable : (name other : List ℕ) (ty s : HolType) → variable name ty ≡ variable other s → (name ≡ other) × (ty ≡ s)
  same-variable name other ty s same = (cc, cc)

  -- a known formula stays one, with the types and the terms put in by which a pattern becomes a known term
  pub replaced-known : (fixed : List NamedTerm) (pattern term : NamedTerm) (by : Replacements) (ty : HolType) (t : Nameless) → Matches fixed pattern term by.types by.terms
      → IsKnown theory (image term) ty
      → IsKnown theory t bool_type → IsKnown theory (replaced by t) bool_type
  replaced-known fixed pattern term by ty t match known formula =
      put-known theory (replacement by.terms) (may-replace by.terms put_terms) (instantiate (type_instance_of by.types) t) bool_type
      (instantiate-known theory (type_instance_of by.types) (types-known by.types put_types) t bool_type formula)
    where
      parts : HasKnownParts theory (put (replacement by.terms) (instantiate (type_instance_of by.types) (image pattern)))
      parts = subst (λ (u : Nameless). HasKnownParts theory u) (sym match.is_match.gives_term) known.parts

      put_types : (name : List ℕ) (pair : HolType × HolType) → IsMember pair by.types → pair.1 ≡ type_variable name → find (λ other. type_eq other.1 (type_variable name)) by.types ≡ Some pair
          → IsKnownType theory pair.0
      put_types name pair member is first =
          let puts = match.puts_types pair member in
          let there : IsKnownType theory (type_instance_of by.types puts.name) =
          term-type-part (type_instance_of by.types) (replacement by.terms) match.is_match.may_be_put.typed puts.name (image pattern) puts.occurs parts in
          subst (λ (chosen : Option (HolType × HolType)). IsKnownType theory (option_map_or (λ other. other.0) chosen (type_variable puts.name))) puts.counts there

      put_terms : (name : List ℕ) (ty : HolType) (pair : NamedTerm × NamedTerm) → IsMember pair by.terms → pair.1 ≡ variable name ty
          → find (λ other. is_variable_named name ty other.1) by.terms ≡ Some pair → IsKnown theory (image pair.0) ty
      put_terms name ty pair member is first =
          let puts = match.puts_terms pair member in
          let same = same-variable puts.name name puts.ty ty (sym puts.is_old ∙ is) in
          let there : HasKnownParts theory (replacement by.terms puts.name puts.ty) =
          put-part (replacement by.terms) puts.name puts.ty (instantiate (type_instance_of by.types) (image pattern)) puts.occurs parts in
          let known_there : IsKnown theory (replacement by.terms puts.name puts.ty) puts.ty = record { typed = match.is_match.may_be_put.typed puts.name puts.ty; parts = there } in
          subst (λ (s : HolType). IsKnown theory (image pair.0) s) same.1
          (subst (λ (chosen : Option (NamedTerm × NamedTerm)). IsKnown theory (option_map_or (λ other. image other.0) chosen (free puts.name puts.ty)) puts.ty) puts.counts known_there)
