-- Theorems of which each term is changed, whatever names their binders take, and what may stand for variables.
use Rattle.std.proofs.Common.{◌≡◌, ◌⊎◌, ℕ, List, [], ◌∷◌, map, Bool, true, false, not, Option, Some, None, refl, ◌∙◌, ap, inl, inr, if◌then◌else◌, find}
use Rattle.std.specs.List.{list_all}
use Rattle.std.specs.Option.{option_map_or}
use Rattle.hol_model.specs.Logic.KnownTerm.{knows_type, knows_types, knows_constants, has_instances}
use Rattle.hol_model.proofs.Terms.HolTypeEq.{type_eq-Decides}
use Rattle.hol_model.proofs.Tests.{first_of_both, second_of_both, same_variable-type}
use Rattle.hol_model.proofs.Logic.KnownTerms.{image-known, knows_type-IsKnownType}
use Rattle.hol_model.specs.Terms.HolType.{HolType, type_variable, type_eq, replaces_type_variables, type_instance_of}
use Rattle.hol_model.specs.Terms.NamedTerm.{NamedTerm, variable, constant, combination, abstraction, type_of}
use Rattle.hol_model.specs.Terms.Nameless.{Nameless, free, image}
use Rattle.hol_model.specs.Terms.Substitution.{replacement, is_variable_named, same_type, keeps_types, replaces_variables}
use Rattle.hol_model.specs.Logic.Theory.{Theory, IsLegal, IsKnown, IsKnownType}
use Rattle.hol_model.specs.Logic.Derivable.{Derivable, MayReplace}
use Rattle.hol_model.specs.Logic.Derivable.Derivable.{same_hypotheses}
use Rattle.hol_model.specs.declared.fault.Fault.{Fault}
use Rattle.hol_model.specs.Kernel.Instantiation.{all_fit, replacements_refusal, type_replacements_refusal}
use Rattle.hol_model.specs.Kernel.Theorem.{IsTheorem, with_hypotheses}
use Rattle.hol_kernel.proofs.HypothesesLemmas.{with_hypotheses-same_set}
use Rattle.hol_kernel.proofs.OrderLemmas.{with_hypotheses-ordered}

module _ (theory : Theory) (legal : IsLegal theory) where
  -- hypotheses that are put in order follow as they did before
  pub in_order : (instances : List NamedTerm) (conclusion : NamedTerm) (hypotheses : List Nameless) (c : Nameless)
      → map image instances ≡ hypotheses → image conclusion ≡ c → Derivable theory hypotheses c
      → IsTheorem (record { theory = theory; hypotheses = with_hypotheses [] instances; conclusion = conclusion })
  in_order instances conclusion hypotheses c are is derived =
      let listed : Derivable theory (map image instances) c = rw are derived in
      record { legal = legal; derivable = rw is (same_hypotheses listed (with_hypotheses-same_set [] instances)); ordered = with_hypotheses-ordered [] instances tt }

-- what a list of replacements puts for a variable is known and of its type, where the new parts are
pub replacement-MayReplace : (theory : Theory) (theta : List (NamedTerm × NamedTerm)) → keeps_types theta ≡ true
    → list_all (λ pair. knows_types theory pair.0) theta ≡ true → list_all (λ pair. has_instances theory pair.0) theta ≡ true → MayReplace theory (replacement theta)
replacement-MayReplace theory [] keeps types instances name ty = inr refl
replacement-MayReplace theory (pair ∷ rest) keeps types instances name ty =
    go (is_variable_named name ty pair.1) refl
    (replacement-MayReplace theory rest
    (second_of_both (same_type (type_of pair.0) (type_of pair.1)) (keeps_types rest) keeps)
    (second_of_both (knows_types theory pair.0) (list_all (λ pair. knows_types theory pair.0) rest) types)
    (second_of_both (has_instances theory pair.0) (list_all (λ pair. has_instances theory pair.0) rest) instances) name ty)
  where
    first_typed : (new old : NamedTerm) → same_type (type_of new) (type_of old) ≡ true → is_variable_named name ty old ≡ true → type_of new ≡ Some ty
    first_typed new (variable other s) same is = types_from (type_of new) refl same
      where
        types_from : (found : Option HolType) → type_of new ≡ found → same_type found (Some s) ≡ true → type_of new ≡ Some ty
        types_from None typed same = cc
        types_from (Some t) typed same = typed ∙ ap Some ((type_eq-Decides t s).0 same ∙ same_variable-type other name s ty is)
    first_typed new (constant other s) same is = cc
    first_typed new (combination f x) same is = cc
    first_typed new (abstraction other s b) same is = cc

    go : (test : Bool) → is_variable_named name ty pair.1 ≡ test → IsKnown theory (replacement rest name ty) ty ⊎ (replacement rest name ty ≡ free name ty)
        → IsKnown theory (option_map_or (λ p. image p.0) (if◌then◌else◌ {A = Option (NamedTerm × NamedTerm)} test (Some pair) (find (λ p. is_variable_named name ty p.1) rest)) (free name ty)) ty
        ⊎ (option_map_or (λ p. image p.0) (if◌then◌else◌ {A = Option (NamedTerm × NamedTerm)} test (Some pair) (find (λ p. is_variable_named name ty p.1) rest)) (free name ty) ≡ free name ty)
    go true is deeper = inl (image-known theory pair.0 ty
        (first_typed pair.0 pair.1 (first_of_both (same_type (type_of pair.0) (type_of pair.1)) (keeps_types rest) keeps) is)
        (first_of_both (knows_types theory pair.0) (list_all (λ pair. knows_types theory pair.0) rest) types)
        (first_of_both (has_instances theory pair.0) (list_all (λ pair. has_instances theory pair.0) rest) instances))
    go false is deeper = deeper

-- the replacements pass the tests
pub record PassesInst (theory : Theory) (theta : List (NamedTerm × NamedTerm)) : Type 0 where
  pub variables : replaces_variables theta ≡ true
  pub keeps : keeps_types theta ≡ true
  pub types : list_all (λ pair. knows_types theory pair.0) theta ≡ true
  pub instances : list_all (λ pair. has_instances theory pair.0) theta ≡ true

pub passes_inst : (theory : Theory) (theta : List (NamedTerm × NamedTerm)) → replacements_refusal theory theta ≡ None → PassesInst theory theta
passes_inst theory theta none =
    go (replaces_variables theta) refl (keeps_types theta) refl (list_all (λ pair. knows_types theory pair.0) theta) refl
    (list_all (λ pair. knows_constants theory pair.0) theta) (list_all (λ pair. has_instances theory pair.0) theta) refl none
  where
    go : (variables : Bool) → replaces_variables theta ≡ variables → (keeps : Bool) → keeps_types theta ≡ keeps → (types : Bool)
        → list_all (λ pair. knows_types theory pair.0) theta ≡ types → (constants instances : Bool)
        → list_all (λ pair. has_instances theory pair.0) theta ≡ instances
        → (if not variables then Some Fault.NotVariable else (if not keeps then Some Fault.TypeMismatch else (if not types then Some Fault.UnknownType
        else (if not constants then Some Fault.UnknownConst else (if not instances then Some Fault.NotInstance else None))))) ≡ None → PassesInst theory theta
    go false v keeps k types t constants instances i none = cc
    go true v false k types t constants instances i none = cc
    go true v true k false t constants instances i none = cc
    go true v true k true t false instances i none = cc
    go true v true k true t true false i none = cc
    go true v true k true t true true i none = record { variables = v; keeps = k; types = t; instances = i }

-- the pairs are of types and known
pub known_types : (theory : Theory) (theta : List (HolType × HolType)) → list_all (λ pair. knows_type theory pair.0) theta ≡ true → (name : List ℕ) → IsKnownType theory (type_instance_of theta name)
known_types theory [] known name = tt
known_types theory (pair ∷ rest) known name =
    go (type_eq pair.1 (type_variable name))
    (known_types theory rest (second_of_both (knows_type theory pair.0) (list_all (λ p. knows_type theory p.0) rest) known) name)
  where
    go : (test : Bool) → IsKnownType theory (type_instance_of rest name)
        → IsKnownType theory (option_map_or (λ p. p.0) (if◌then◌else◌ {A = Option (HolType × HolType)} test (Some pair) (find (λ p. type_eq p.1 (type_variable name)) rest)) (type_variable name))
    go true deeper = knows_type-IsKnownType theory pair.0 (first_of_both (knows_type theory pair.0) (list_all (λ p. knows_type theory p.0) rest) known)
    go false deeper = deeper

pub record PassesInstType (theory : Theory) (theta : List (HolType × HolType)) : Type 0 where
  pub variables : replaces_type_variables theta ≡ true
  pub known : list_all (λ pair. knows_type theory pair.0) theta ≡ true

pub passes_inst_type : (theory : Theory) (theta : List (HolType × HolType)) → type_replacements_refusal theory theta ≡ None → PassesInstType theory theta
passes_inst_type theory theta none = go (replaces_type_variables theta) refl (list_all (λ pair. knows_type theory pair.0) theta) refl none
  where
    go : (variables : Bool) → replaces_type_variables theta ≡ variables → (known : Bool) → list_all (λ pair. knows_type theory pair.0) theta ≡ known
        → (if not variables then Some Fault.NotVariable else (if not known then Some Fault.UnknownType else None)) ≡ None → PassesInstType theory theta
    go false v known k none = cc
    go true v false k none = cc
    go true v true k none = record { variables = v; known = k }

-- terms that are changed one by one
pub record AreChanged (change : Nameless → Nameless) (terms made : List NamedTerm) : Type 0 where
  pub images : map image made ≡ map change (map image terms)
  pub fit : all_fit change terms ≡ true
