-- What a match puts for variables of a pattern is known where the term is.
use Rattle.std.proofs.Common.{◌≡◌, ℕ, List, [], ◌∷◌, Bool, true, false, ◌&&◌, ◌||◌, refl, sym, ap, subst, inl, inr, Option, Some, None}
use Rattle.std.specs.List.{list_all}
use Rattle.std.specs.Option.{option_map_or}
use Rattle.hol_model.specs.Terms.HolType.{HolType, type_variable, bool_type, function_type, declared_type, is_type_variable, TypeInstance, instantiate_type, type_instance_of, OccursInType}
use Rattle.hol_model.specs.Terms.NamedTerm.{NamedTerm, is_variable, type_of}
use Rattle.hol_model.specs.Terms.Nameless.{Nameless, free, const, bound, app, lam, HasType, image}
use Rattle.hol_model.specs.Terms.Substitution.{TermInstance, put, instantiate, replacement, occurs_free, OccursInTerm, same_type}
use Rattle.hol_model.specs.Logic.Theory.{Theory, IsKnownType, HasKnownParts}
use Rattle.hol_model.specs.Logic.KnownTerm.{knows_type, knows_types, knows_constants, has_instances, is_known}
use Rattle.hol_model.specs.Logic.Derivable.{IsMember}
use Rattle.hol_model.specs.Kernel.Instantiation.{replacements_refusal, type_replacements_refusal}
use Rattle.hol_model.specs.Rewrites.Matching.{Matches}
use Rattle.hol_model.proofs.Tests.{first_of_both, second_of_both, both, same_name, same_variable-type}
use Rattle.hol_model.proofs.Logic.Known.{IsKnown-type}
use Rattle.hol_model.proofs.Terms.HolTypeEq.{type_eq-self}
use Rattle.hol_model.proofs.Terms.Images.{image-typed}
use Rattle.hol_model.proofs.Terms.TypeTests.{knows_type-Decides}
use Rattle.hol_model.proofs.Terms.NamedTests.{is_known-Decides}

abbrev IsTyped : TermInstance → Type 0
IsTyped theta = (name : List ℕ) (ty : HolType) → HasType [] (theta name ty) ty

-- what is put for a type variable of a type is a part of what the type becomes
known-in-type : (theory : Theory) (tau : TypeInstance) (name : List ℕ) (ty : HolType) → OccursInType name ty → IsKnownType theory (instantiate_type tau ty) → IsKnownType theory (tau name)
known-in-type theory tau name (type_variable other) occurs known = subst (λ (n : List ℕ). IsKnownType theory (tau n)) (sym occurs) known
known-in-type theory tau name bool_type occurs known = absurd occurs
known-in-type theory tau name (function_type a b) (inl occurs) known = known-in-type theory tau name a occurs known.0
known-in-type theory tau name (function_type a b) (inr occurs) known = known-in-type theory tau name b occurs known.1
known-in-type theory tau name (declared_type other) occurs known = absurd occurs

known-type : (theory : Theory) (tau : TypeInstance) (theta : TermInstance) → IsTyped theta → (name : List ℕ) (term : Nameless) → OccursInTerm name term
    → HasKnownParts theory (put theta (instantiate tau term)) → IsKnownType theory (tau name)
known-type theory tau theta typed name (free other ty) occurs known =
    let new = instantiate_type tau ty in
    known-in-type theory tau name ty occurs (IsKnown-type theory (theta other new) new (record { typed = typed other new; parts = known }))
known-type theory tau theta typed name (const other ty) occurs known = known-in-type theory tau name ty occurs known.0
known-type theory tau theta typed name (bound index) occurs known = absurd occurs
known-type theory tau theta typed name (app f x) (inl occurs) known = known-type theory tau theta typed name f occurs known.0
known-type theory tau theta typed name (app f x) (inr occurs) known = known-type theory tau theta typed name x occurs known.1
known-type theory tau theta typed name (lam ty body) (inl occurs) known = known-in-type theory tau name ty occurs known.0
known-type theory tau theta typed name (lam ty body) (inr occurs) known = known-type theory tau theta typed name body occurs known.1

-- what is put for a free variable of a term is a part of what the term becomes
known-term : (theory : Theory) (theta : TermInstance) (name : List ℕ) (ty : HolType) (term : Nameless) → occurs_free name ty term ≡ true
    → HasKnownParts theory (put theta term) → HasKnownParts theory (theta name ty)
known-term theory theta name ty (free other s) occurs known =
    let name_is : name ≡ other = same_name name other ty s occurs in
    let type_is : ty ≡ s = same_variable-type name other ty s occurs in
    subst (λ (a : HolType). HasKnownParts theory (theta name a)) (sym type_is) (subst (λ (n : List ℕ). HasKnownParts theory (theta n s)) (sym name_is) known)
known-term theory theta name ty (const other s) occurs known = cc
known-term theory theta name ty (bound index) occurs known = cc
known-term theory theta name ty (app f x) occurs known =
    go (occurs_free name ty f) refl occurs (λ is. known-term theory theta name ty f is known.0) (λ is. known-term theory theta name ty x is known.1)
  where
    go : (test : Bool) → occurs_free name ty f ≡ test → (test || occurs_free name ty x) ≡ true → (occurs_free name ty f ≡ true → HasKnownParts theory (theta name ty))
        → (occurs_free name ty x ≡ true → HasKnownParts theory (theta name ty)) → HasKnownParts theory (theta name ty)
    go true is passed left right = left is
    go false is passed left right = right passed
known-term theory theta name ty (lam s body) occurs known = known-term theory theta name ty body occurs known.1

pub all_pass : {A : Type 0} (test : A → Bool) (xs : List A) → ((x : A) → IsMember x xs → test x ≡ true) → list_all test xs ≡ true
all_pass test [] each = refl
all_pass test (x ∷ xs) each = both (test x) (list_all test xs) (each x (inl refl)) (all_pass test xs (λ y m. each y (inr m)))

-- the matched term is known
module _ (theory : Theory) (fixed : List NamedTerm) (pattern term : NamedTerm) (types : List (HolType × HolType)) (terms : List (NamedTerm × NamedTerm))
    (matches : Matches fixed pattern term types terms) (known : HasKnownParts theory (image term)) where
  instance-known : HasKnownParts theory (put (replacement terms) (instantiate (type_instance_of types) (image pattern)))
  instance-known = subst (λ (t : Nameless). HasKnownParts theory t) (sym matches.is_match.gives_term) known

  typed : IsTyped (replacement terms)
  typed = matches.is_match.may_be_put.typed

  is_type_pair : (pair : HolType × HolType) → IsMember pair types → is_type_variable pair.1 ≡ true
  is_type_pair pair member = ap is_type_variable (matches.puts_types pair member).is_old

  type-passes : (pair : HolType × HolType) → IsMember pair types → knows_type theory pair.0 ≡ true
  type-passes pair member =
      let at = matches.puts_types pair member in
      let put_is : type_instance_of types at.name ≡ pair.0 = ap (λ (o : Option (HolType × HolType)). option_map_or (λ p. p.0) o (type_variable at.name)) at.counts in
      let there = known-type theory (type_instance_of types) (replacement terms) typed at.name (image pattern) at.occurs instance-known in
      (knows_type-Decides theory pair.0).1 (subst (λ (a : HolType). IsKnownType theory a) put_is there)

  pub types-pass : type_replacements_refusal theory types ≡ None
  types-pass = rw (all_pass (λ pair. is_type_variable pair.1) types is_type_pair, all_pass (λ pair. knows_type theory pair.0) types type-passes) refl

  is_pair : (pair : NamedTerm × NamedTerm) → IsMember pair terms → is_variable pair.1 ≡ true
  is_pair pair member = ap is_variable (matches.puts_terms pair member).is_old

  has_type : (pair : NamedTerm × NamedTerm) → IsMember pair terms → same_type (type_of pair.0) (type_of pair.1) ≡ true
  has_type pair member =
      let at = matches.puts_terms pair member in
      let old : type_of pair.1 ≡ Some at.ty = ap type_of at.is_old in
      rw (at.is_typed, old) (type_eq-self at.ty)

  term-passes : (pair : NamedTerm × NamedTerm) → IsMember pair terms → is_known theory pair.0 ≡ true
  term-passes pair member =
      let at = matches.puts_terms pair member in
      let put_is : replacement terms at.name at.ty ≡ image pair.0 = ap (λ (o : Option (NamedTerm × NamedTerm)). option_map_or (λ p. image p.0) o (free at.name at.ty)) at.counts in
      let there = known-term theory (replacement terms) at.name at.ty (instantiate (type_instance_of types) (image pattern)) at.occurs instance-known in
      (is_known-Decides theory pair.0 at.ty at.is_typed).1
      (record { typed = image-typed pair.0 at.ty at.is_typed; parts = subst (λ (t : Nameless). HasKnownParts theory t) put_is there })

  knows_its_types : (pair : NamedTerm × NamedTerm) → IsMember pair terms → knows_types theory pair.0 ≡ true
  knows_its_types pair member =
      let two = first_of_both (knows_types theory pair.0 && knows_constants theory pair.0) (has_instances theory pair.0) (term-passes pair member) in
      first_of_both (knows_types theory pair.0) (knows_constants theory pair.0) two

  knows_its_constants : (pair : NamedTerm × NamedTerm) → IsMember pair terms → knows_constants theory pair.0 ≡ true
  knows_its_constants pair member =
      let two = first_of_both (knows_types theory pair.0 && knows_constants theory pair.0) (has_instances theory pair.0) (term-passes pair member) in
      second_of_both (knows_types theory pair.0) (knows_constants theory pair.0) two

  has_its_instances : (pair : NamedTerm × NamedTerm) → IsMember pair terms → has_instances theory pair.0 ≡ true
  has_its_instances pair member = second_of_both (knows_types theory pair.0 && knows_constants theory pair.0) (has_instances theory pair.0) (term-passes pair member)

  pub terms-pass : replacements_refusal theory terms ≡ None
  terms-pass = rw (
    all_pass (λ pair. is_variable pair.1) terms is_pair,
    all_pass (λ pair. same_type (type_of pair.0) (type_of pair.1)) terms has_type,
    all_pass (λ pair. knows_types theory pair.0) terms knows_its_types,
    all_pass (λ pair. knows_constants theory pair.0) terms knows_its_constants,
    all_pass (λ pair. has_instances theory pair.0) terms has_its_instances,
  ) refl
