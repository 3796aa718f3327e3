-- Terms that are read are known.
use Rattle.std.proofs.Common.{◌≡◌, ℕ, List, [], ◌∷◌, Bool, true, false, ◌&&◌, refl, sym, ap, subst, ◌∙◌, Option, None, Some, Result, Ok, Err, if◌then◌else◌}
use Rattle.std.specs.Prelude.{is_some, codes}
use Rattle.std.specs.Option.{option_map}
use Rattle.std.specs.Str.{bytes_eq}
use Rattle.hol_model.specs.declared.fault.Fault.{Fault}
use Rattle.hol_model.specs.declared.fault.Fault.TheVariants.{TooLarge, BadName, TypeMismatch, UnknownConst, NotInstance}
use Rattle.hol_model.specs.Terms.Name.{is_identifier, is_constant_name, is_type_variable_name, is_declared_type_name}
use Rattle.hol_model.specs.Terms.HolType.{HolType, type_variable, bool_type, function_type, declared_type, is_instance, type_eq}
use Rattle.hol_model.specs.Terms.NamedTerm.{NamedTerm, variable, constant, combination, abstraction, type_of, type_fits, answer_type, application_type, equality, is_within_limits, equation}
use Rattle.hol_model.specs.Logic.Theory.{Theory, definition, declaration_of_type, declaration_of_constant, IsLegal, IsKnownType, generic_type, equality_name, equality_type, choice_name}
use Rattle.hol_model.specs.Logic.Theory.{choice_type, type_a}
use Rattle.hol_model.specs.Logic.KnownTerm.{knows_type, knows_types, has_instances}
use Rattle.hol_model.specs.Texts.Token.{token_text}
use Rattle.hol_model.specs.Texts.TypeGrammar.{TypeTree}
use Rattle.hol_model.specs.Texts.TypeGrammar.{Named, Function, Enclosed as EnclosedType}
use Rattle.hol_model.specs.Texts.TermGrammar.{Infix, IffInfix, ImpliesInfix, OrInfix, AndInfix, EqualInfix, Binder, Lambda, ForAll, Exists, Choice, Atom, Bare, Variable, Constant, TermTree, Leaf}
use Rattle.hol_model.specs.Texts.TermGrammar.{Enclosed, Apply, Not, Join, Bind}
use Rattle.hol_model.specs.Texts.Reading.{Scope, ◌>>=◌, and_then, type_named, written_type, known_type, type_meaning, is_closed_type, Bindings, bound_type, named_variable, named_binding}
use Rattle.hol_model.specs.Texts.Reading.{constant_at, known_constant, declared_variable, bare_constant, bare_identifier, bare_name, atom_meaning, well_typed, connective_at, connective}
use Rattle.hol_model.specs.Texts.Reading.{truth_operation, quantifier_type, infix_term, negation, join, bind, meaning}
use Rattle.hol_model.proofs.Tests.{second_of_both, both}
use Rattle.hol_model.proofs.Terms.TypeTests.{knows_type-Decides}
use Rattle.hol_model.proofs.Terms.Instances.{is_instance-Decides}
use Rattle.hol_model.proofs.Logic.Later.{IsKnownType-later}
use Rattle.hol_model.proofs.Logic.Known.{IsKnown-type, generic_type-logical}
use Rattle.hol_model.proofs.Terms.Typing.{instantiate_type-same}
use Rattle.hol_laws_sessions.specs.ReadTerms.{IsScopeOver, IsKnownTyped, ReadTermsAreKnown}
use Rattle.hol_laws_goals.proofs.Passing.{PassesTests}
use Rattle.hol_laws_goals.proofs.Knowledge.{none_unknown}

-- ---- types of constants

generic-known : (theory : Theory) → IsLegal theory → (name : List ℕ) (generic : HolType) → generic_type theory name ≡ Some generic → IsKnownType theory generic
generic-known [] legal name generic is = go (bytes_eq equality_name name) (bytes_eq choice_name name) is
  where
    go : (first second : Bool) → (if first then Some (equality_type type_a) else (if second then Some (choice_type type_a) else None)) ≡ Some generic → IsKnownType [] generic
    go true second is = (let one : equality_type type_a ≡ generic = cc in subst (λ (t : HolType). IsKnownType [] t) one (tt, (tt, tt)))
    go false true is = (let one : choice_type type_a ≡ generic = cc in subst (λ (t : HolType). IsKnownType [] t) one ((tt, tt), tt))
    go false false is = cc
generic-known (definition other ty body ∷ rest) legal name generic is = go (bytes_eq other name) is (λ there. generic-known rest legal.1 name generic there)
  where
    go : (test : Bool) → (if test then Some ty else generic_type rest name) ≡ Some generic → (generic_type rest name ≡ Some generic → IsKnownType rest generic) →
        IsKnownType (definition other ty body ∷ rest) generic
    go true is deeper = (let one : ty ≡ generic = cc in subst (λ (t : HolType). IsKnownType (definition other ty body ∷ rest) t) one
        (IsKnownType-later (definition other ty body) rest ty (IsKnown-type rest body ty legal.0.known)))
    go false is deeper = IsKnownType-later (definition other ty body) rest generic (deeper is)
generic-known (declaration_of_type other ∷ rest) legal name generic is = IsKnownType-later (declaration_of_type other) rest generic (generic-known rest legal.1 name generic is)
generic-known (declaration_of_constant other ty ∷ rest) legal name generic is = go (bytes_eq other name) is (λ there. generic-known rest legal.1 name generic there)
  where
    go : (test : Bool) → (if test then Some ty else generic_type rest name) ≡ Some generic → (generic_type rest name ≡ Some generic → IsKnownType rest generic) →
        IsKnownType (declaration_of_constant other ty ∷ rest) generic
    go true is deeper = (let one : ty ≡ generic = cc in subst (λ (t : HolType). IsKnownType (declaration_of_constant other ty ∷ rest) t) one
        (IsKnownType-later (declaration_of_constant other ty) rest ty legal.0.known))
    go false is deeper = IsKnownType-later (declaration_of_constant other ty) rest generic (deeper is)

own_instance : (ty : HolType) → is_instance ty ty ≡ true
own_instance ty = (is_instance-Decides ty ty).1 (record { instance = type_variable; is_instance = sym (instantiate_type-same ty) })

module _ (theory : Theory) (legal : IsLegal theory) (scope : Scope) (over : IsScopeOver theory scope) where
  abbrev Knows : HolType → Type 0
  Knows ty = knows_type theory ty ≡ true

  abbrev KnowsIfAny : Option HolType → Type 0
  KnowsIfAny None = Unit {0}
  KnowsIfAny (Some ty) = Knows ty

  abbrev KnowsAnswer : Result HolType Fault → Type 0
  KnowsAnswer (Ok ty) = Knows ty
  KnowsAnswer (Err fault) = Unit {0}

  -- ---- types

  named-known : (name : List ℕ) → KnowsIfAny (type_named scope name)
  named-known name = go (is_identifier name) (is_type_variable_name name) (bytes_eq name (codes "bool")) (scope.declares_type name) refl (is_declared_type_name name)
    where
      go : (identifier capital boolean declared : Bool) → scope.declares_type name ≡ declared → (typical : Bool)
          → KnowsIfAny (if identifier then (if capital then Some (type_variable name) else
          (if boolean then Some bool_type else (if declared && typical then Some (declared_type name) else None))) else None)
      go false capital boolean declared is typical = tt
      go true true boolean declared is typical = refl
      go true false true declared is typical = refl
      go true false false true is true = sym (over.types name) ∙ is
      go true false false true is false = tt
      go true false false false is typical = tt

  written-known : (tree : TypeTree) → KnowsIfAny (written_type scope tree)
  written-known (Named name) = named-known name
  written-known (EnclosedType tree) = written-known tree
  written-known (Function left right) = go (written_type scope left) (written_type scope right) (written-known left) (written-known right)
    where
      go : (domain codomain : Option HolType) → KnowsIfAny domain → KnowsIfAny codomain → KnowsIfAny (and_then domain (λ a. and_then codomain (λ b. Some (function_type a b))))
      go None codomain known more = tt
      go (Some a) None known more = tt
      go (Some a) (Some b) known more = both (knows_type theory a) (knows_type theory b) known more

  type-known : (tree : TypeTree) → KnowsAnswer (type_meaning scope tree)
  type-known tree = go (written_type scope tree) (written-known tree)
    where
      go : (found : Option HolType) → KnowsIfAny found → KnowsAnswer (known_type found)
      go None known = tt
      go (Some ty) known = fits (type_fits ty)
        where
          fits : (test : Bool) → KnowsAnswer (if test then Ok ty else Err TooLarge)
          fits true = known
          fits false = tt

  -- ---- terms

  -- a term with a known type and known parts
  record IsGood (term : NamedTerm) : Type 0 where
    ty : HolType
    typed : type_of term ≡ Some ty
    knows : Knows ty
    tests : PassesTests theory term

  abbrev GivesGood : Result NamedTerm Fault → Type 0
  GivesGood (Ok term) = IsGood term
  GivesGood (Err fault) = Unit {0}

  -- the parts of a term that has a type make it good
  abbrev IsGoodIfTyped : NamedTerm → Type 0
  IsGoodIfTyped term = (ty : HolType) → type_of term ≡ Some ty → IsGood term

  good-well_typed : (term : NamedTerm) → IsGoodIfTyped term → GivesGood (well_typed term)
  good-well_typed term good = go (type_of term) refl (is_within_limits term)
    where
      go : (found : Option HolType) → type_of term ≡ found → (fits : Bool) → GivesGood (if is_some found then (if fits then Ok term else Err TooLarge) else Err TypeMismatch)
      go None is fits = tt
      go (Some ty) is true = good ty is
      go (Some ty) is false = tt

  variable-good : (name : List ℕ) (ty : HolType) → Knows ty → IsGood (variable name ty)
  variable-good name ty known = record { ty = ty; typed = refl; knows = known; tests = record { types = known; instances = refl } }

  constant-good : (name : List ℕ) (ty generic : HolType) → Knows ty → generic_type theory name ≡ Some generic → is_instance generic ty ≡ true → IsGood (constant name ty)
  constant-good name ty generic known is instance = record { ty = ty; typed = refl; knows = known; tests = record { types = known; instances = rw is instance } }

  -- the codomain of the function's type
  applied : (f a ty : HolType) → answer_type f a ≡ Some ty → Knows f → Knows ty
  applied (function_type domain codomain) a ty is known = go (type_eq domain a) is
    where
      go : (test : Bool) → (if test then Some codomain else None) ≡ Some ty → Knows ty
      go true is = (let one : codomain ≡ ty = cc in subst Knows one (second_of_both (knows_type theory domain) (knows_type theory codomain) known))
      go false is = cc
  applied (type_variable name) a ty is known = cc
  applied bool_type a ty is known = cc
  applied (declared_type name) a ty is known = cc

  combination-good : (f a : NamedTerm) → IsGood f → IsGood a → IsGoodIfTyped (combination f a)
  combination-good f a good other ty is =
      let both_typed : application_type (Some good.ty) (Some other.ty) ≡ Some ty =
      ap (λ (o : Option HolType). application_type o (Some other.ty)) (sym good.typed) ∙ ap (λ (o : Option HolType). application_type (type_of f) o) (sym other.typed) ∙ is in
      record {
        ty = ty;
        typed = is;
        knows = applied good.ty other.ty ty both_typed good.knows;
        tests = record {
          types = both (knows_types theory f) (knows_types theory a) good.tests.types other.tests.types;
          instances = both (has_instances theory f) (has_instances theory a) good.tests.instances other.tests.instances;
        };
      }

  abstraction-good : (name : List ℕ) (ty : HolType) (body : NamedTerm) → Knows ty → IsGood body → IsGood (abstraction name ty body)
  abstraction-good name ty body known good = record {
    ty = function_type ty good.ty;
    typed = ap (option_map (function_type ty)) good.typed;
    knows = both (knows_type theory ty) (knows_type theory good.ty) known good.knows;
    tests = record { types = both (knows_type theory ty) (knows_types theory body) known good.tests.types; instances = good.tests.instances };
  }

  -- the connectives and the binders

  applied_twice : (c a b : NamedTerm) → IsGood c → IsGood a → IsGood b → IsGoodIfTyped (combination (combination c a) b)
  applied_twice c a b good_c good_a good_b ty is = go (type_of (combination c a)) refl
    where
      go : (found : Option HolType) → type_of (combination c a) ≡ found → IsGood (combination (combination c a) b)
      go None there =
          (let whole : ◌≡◌ {A = Option HolType} (application_type None (type_of b)) (Some ty) = ap (λ (o : Option HolType). application_type o (type_of b)) (sym there) ∙ is in cc)
      go (Some function) there = combination-good (combination c a) b (combination-good c a good_c good_a function there) good_b ty is

  -- `=` and `@` belong to the logic
  equality-good : (ty : HolType) → Knows ty → IsGood (constant (codes "=") (function_type ty (function_type ty bool_type)))
  equality-good ty known =
      constant-good (codes "=") (equality_type ty) (equality_type type_a)
      (both (knows_type theory ty) (knows_type theory (function_type ty bool_type)) known (both (knows_type theory ty) true known refl))
      (generic_type-logical theory legal equality_name (equality_type type_a) refl)
      ((is_instance-Decides (equality_type type_a) (equality_type ty)).1 (record { instance = λ v. ty; is_instance = refl }))

  choice-good : (ty : HolType) → Knows ty → IsGood (constant choice_name (choice_type ty))
  choice-good ty known =
      constant-good choice_name (choice_type ty) (choice_type type_a)
      (both (knows_type theory (function_type ty bool_type)) (knows_type theory ty) (both (knows_type theory ty) true known refl) known)
      (generic_type-logical theory legal choice_name (choice_type type_a) refl) ((is_instance-Decides (choice_type type_a) (choice_type ty)).1 (record { instance = λ v. ty; is_instance = refl }))

  equation-good : (a b : NamedTerm) → IsGood a → IsGood b → IsGoodIfTyped (equation a b)
  equation-good a b good other =
      subst (λ (c : NamedTerm). IsGoodIfTyped (combination (combination c a) b)) (ap equality (sym good.typed))
      (applied_twice (equality (Some good.ty)) a b (equality-good good.ty good.knows) good other)

  good-connective : (name : List ℕ) (ty : HolType) (term : NamedTerm) → Knows ty → (IsGood (constant name ty) → IsGoodIfTyped term) → GivesGood (connective scope name ty term)
  good-connective name ty term known good = go (scope.generic_type name) refl
    where
      go : (found : Option HolType) → scope.generic_type name ≡ found → GivesGood (connective_at found ty term)
      go None is = tt
      go (Some generic) is = test (is_instance generic ty) refl
        where
          test : (fits : Bool) → is_instance generic ty ≡ fits → GivesGood (if fits then well_typed term else Err NotInstance)
          test true instance = good-well_typed term (good (constant-good name ty generic known (sym (over.constants name) ∙ is) instance))
          test false instance = tt

  good-infix : (name : List ℕ) (a b : NamedTerm) → IsGood a → IsGood b → GivesGood (connective scope name truth_operation (infix_term name truth_operation a b))
  good-infix name a b good other = good-connective name truth_operation (infix_term name truth_operation a b) refl (λ c. applied_twice (constant name truth_operation) a b c good other)

  good-join : (infix' : Infix) (a b : NamedTerm) → IsGood a → IsGood b → GivesGood (join scope infix' a b)
  good-join EqualInfix a b good other = good-well_typed (equation a b) (equation-good a b good other)
  good-join IffInfix a b good other =
      good-well_typed (infix_term (codes "=") truth_operation a b) (applied_twice (constant (codes "=") truth_operation) a b (equality-good bool_type refl) good other)
  good-join ImpliesInfix a b good other = good-infix (codes "==>") a b good other
  good-join OrInfix a b good other = good-infix (codes "\\/") a b good other
  good-join AndInfix a b good other = good-infix (codes "/\\") a b good other

  good-negation : (term : NamedTerm) → IsGood term → GivesGood (negation scope term)
  good-negation term good =
      let ty : HolType = function_type bool_type bool_type in
      good-connective (codes "~") ty (combination (constant (codes "~") ty) term) refl (λ c. combination-good (constant (codes "~") ty) term c good)

  good-quantifier : (name symbol : List ℕ) (ty : HolType) (body : NamedTerm) → Knows ty → IsGood body
      → GivesGood (connective scope symbol (quantifier_type ty) (combination (constant symbol (quantifier_type ty)) (abstraction name ty body)))
  good-quantifier name symbol ty body known good =
      good-connective symbol (quantifier_type ty) (combination (constant symbol (quantifier_type ty)) (abstraction name ty body))
      (both (knows_type theory (function_type ty bool_type)) true (both (knows_type theory ty) true known refl) refl)
      (λ c. combination-good (constant symbol (quantifier_type ty)) (abstraction name ty body) c (abstraction-good name ty body known good))

  good-bind : (binder : Binder) (name : List ℕ) (ty : HolType) (body : NamedTerm) → Knows ty → IsGood body → GivesGood (bind scope binder name ty body)
  good-bind Lambda name ty body known good = good-well_typed (abstraction name ty body) (λ other is. abstraction-good name ty body known good)
  good-bind ForAll name ty body known good = good-quantifier name (codes "!") ty body known good
  good-bind Exists name ty body known good = good-quantifier name (codes "?") ty body known good
  good-bind Choice name ty body known good =
      good-well_typed (combination (constant choice_name (choice_type ty)) (abstraction name ty body))
      (combination-good (constant choice_name (choice_type ty)) (abstraction name ty body) (choice-good ty known) (abstraction-good name ty body known good))

  -- ---- atoms

  good-declared : (name : List ℕ) → GivesGood (declared_variable (scope.variable_type name) name)
  good-declared name = go (scope.variable_type name) refl
    where
      go : (found : Option HolType) → scope.variable_type name ≡ found → GivesGood (declared_variable found name)
      go None is = tt
      go (Some ty) is = variable-good name ty (over.variables name ty is)

  good-bare_constant : (name : List ℕ) → GivesGood (bare_constant scope (scope.generic_type name) name)
  good-bare_constant name = go (scope.generic_type name) refl
    where
      go : (found : Option HolType) → scope.generic_type name ≡ found → GivesGood (bare_constant scope found name)
      go None is = good-declared name
      go (Some generic) is = test (is_closed_type generic)
        where
          there : generic_type theory name ≡ Some generic
          there = sym (over.constants name) ∙ is

          test : (closed : Bool) → GivesGood (if closed then Ok (constant name generic) else declared_variable (scope.variable_type name) name)
          test true = constant-good name generic generic ((knows_type-Decides theory generic).1 (generic-known theory legal name generic there)) there (own_instance generic)
          test false = good-declared name

  good-bare_name : (bound : Option HolType) (name : List ℕ) → KnowsIfAny bound → GivesGood (bare_name scope bound name)
  good-bare_name bound name known = go (is_identifier name) bound known
    where
      go : (test : Bool) (found : Option HolType) → KnowsIfAny found → GivesGood (if test then bare_identifier scope found name else Err BadName)
      go true None known = good-bare_constant name
      go true (Some ty) known = variable-good name ty known
      go false found known = tt

  good-next : (read : Result HolType Fault) (next : HolType → Result NamedTerm Fault) → KnowsAnswer read → ((ty : HolType) → Knows ty → GivesGood (next ty)) → GivesGood (read >>= next)
  good-next (Ok ty) next known each = each ty known
  good-next (Err fault) next known each = tt

  good-variable : (name : List ℕ) (ty : HolType) → Knows ty → GivesGood (named_variable name ty)
  good-variable name ty known = go (is_identifier name)
    where
      go : (test : Bool) → GivesGood (if test then Ok (variable name ty) else Err BadName)
      go true = variable-good name ty known
      go false = tt

  good-constant : (name : List ℕ) (ty : HolType) → Knows ty → GivesGood (known_constant scope name ty)
  good-constant name ty known = go (is_constant_name name) (scope.generic_type name) refl
    where
      at : (found : Option HolType) → scope.generic_type name ≡ found → GivesGood (constant_at found name ty)
      at None is = tt
      at (Some generic) is = test (is_instance generic ty) refl
        where
          test : (fits : Bool) → is_instance generic ty ≡ fits → GivesGood (if fits then Ok (constant name ty) else Err NotInstance)
          test true instance = constant-good name ty generic known (sym (over.constants name) ∙ is) instance
          test false instance = tt

      go : (test : Bool) (found : Option HolType) → scope.generic_type name ≡ found → GivesGood (if test then constant_at found name ty else Err UnknownConst)
      go true found is = at found is
      go false found is = tt

  -- the types of the binders round a place are known
  abbrev KnownBindings : Bindings → Type 0
  KnownBindings [] = Unit {0}
  KnownBindings (binding ∷ bindings) = Knows binding.1 × KnownBindings bindings

  bound-known : (bindings : Bindings) (name : List ℕ) → KnownBindings bindings → KnowsIfAny (bound_type bindings name)
  bound-known [] name known = tt
  bound-known (binding ∷ bindings) name known = go (bytes_eq binding.0 name) (bound-known bindings name known.1)
    where
      go : (test : Bool) → KnowsIfAny (bound_type bindings name) → KnowsIfAny (if test then Some binding.1 else bound_type bindings name)
      go true deeper = known.0
      go false deeper = deeper

  good-atom : (bindings : Bindings) (atom : Atom) → KnownBindings bindings → GivesGood (atom_meaning scope bindings atom)
  good-atom bindings (Bare name) known = good-bare_name (bound_type bindings name) name (bound-known bindings name known)
  good-atom bindings (Variable name tree) known = good-next (type_meaning scope tree) (named_variable name) (type-known tree) (good-variable name)
  good-atom bindings (Constant name tree) known = good-next (type_meaning scope tree) (known_constant scope (token_text name)) (type-known tree) (good-constant (token_text name))

  -- ---- trees

  good-then : (read : Result NamedTerm Fault) (next : NamedTerm → Result NamedTerm Fault) → GivesGood read → ((term : NamedTerm) → IsGood term → GivesGood (next term)) → GivesGood (read >>= next)
  good-then (Ok term) next good each = each term good
  good-then (Err fault) next good each = tt

  abbrev KnowsBinding : Result (List ℕ × HolType) Fault → Type 0
  KnowsBinding (Ok binding) = Knows binding.1
  KnowsBinding (Err fault) = Unit {0}

  binding-known : (name : List ℕ) (tree : TypeTree) → KnowsBinding (type_meaning scope tree >>= named_binding name)
  binding-known name tree = go (type_meaning scope tree) (type-known tree)
    where
      go : (read : Result HolType Fault) → KnowsAnswer read → KnowsBinding (read >>= named_binding name)
      go (Ok ty) known = test (is_identifier name)
        where
          test : (identifier : Bool) → KnowsBinding (if identifier then Ok (name, ty) else Err BadName)
          test true = known
          test false = tt
      go (Err fault) known = tt

  good-behind : (read : Result (List ℕ × HolType) Fault) (next : List ℕ × HolType → Result NamedTerm Fault) → KnowsBinding read →
      ((binding : List ℕ × HolType) → Knows binding.1 → GivesGood (next binding)) → GivesGood (read >>= next)
  good-behind (Ok binding) next known each = each binding known
  good-behind (Err fault) next known each = tt

  good-meaning : (bindings : Bindings) → KnownBindings bindings → (tree : TermTree) → GivesGood (meaning scope bindings tree)
  good-meaning bindings known (Leaf atom) = good-atom bindings atom known
  good-meaning bindings known (Enclosed tree) = good-meaning bindings known tree
  good-meaning bindings known (Apply function argument) =
      let second = good-meaning bindings known argument in
      good-then (meaning scope bindings function) (λ f. meaning scope bindings argument >>= λ a. well_typed (combination f a)) (good-meaning bindings known function)
      (λ f good_f. good-then (meaning scope bindings argument) (λ a. well_typed (combination f a)) second (λ a good_a. good-well_typed (combination f a) (combination-good f a good_f good_a)))
  good-meaning bindings known (Not tree) = good-then (meaning scope bindings tree) (negation scope) (good-meaning bindings known tree) (λ term good. good-negation term good)
  good-meaning bindings known (Join infix' left right) =
      let second = good-meaning bindings known right in
      good-then (meaning scope bindings left) (λ a. meaning scope bindings right >>= λ b. join scope infix' a b) (good-meaning bindings known left)
      (λ a good_a. good-then (meaning scope bindings right) (λ b. join scope infix' a b) second (λ b good_b. good-join infix' a b good_a good_b))
  good-meaning bindings known (Bind binder name tree body) =
      let inner : (binding : List ℕ × HolType) → Knows binding.1 → GivesGood (meaning scope (binding ∷ bindings) body) = λ binding here. good-meaning (binding ∷ bindings) (here, known) body in
      good-behind (type_meaning scope tree >>= named_binding name) (λ binding. meaning scope (binding ∷ bindings) body >>= λ term. bind scope binder binding.0 binding.1 term) (binding-known name tree)
      (λ binding here. good-then (meaning scope (binding ∷ bindings) body) (λ term. bind scope binder binding.0 binding.1 term) (inner binding here)
      (λ term good. good-bind binder binding.0 binding.1 term here good))

  read-good : (answer : Result NamedTerm Fault) (term : NamedTerm) → answer ≡ Ok term → GivesGood answer → IsGood term
  read-good (Ok other) term same good = (let one : other ≡ term = cc in subst IsGood one good)
  read-good (Err fault) term same good = cc

  read-known : (tree : TermTree) (term : NamedTerm) → meaning scope [] tree ≡ Ok term → IsKnownTyped theory term
  read-known tree term same =
      let good = read-good (meaning scope [] tree) term same (good-meaning [] tt tree) in
      record { ty = good.ty; typed = good.typed; known = none_unknown theory term good.tests }

pub read_terms-known : ReadTermsAreKnown
read_terms-known theory scope legal over tree term same = read-known theory legal scope over tree term same

pub read_type-known : (theory : Theory) → IsLegal theory → (scope : Scope) → IsScopeOver theory scope → (tree : TypeTree) (ty : HolType) → type_meaning scope tree ≡ Ok ty → knows_type theory ty ≡ true
read_type-known theory legal scope over tree ty same = go (type_meaning scope tree) same (type-known theory legal scope over tree)
  where
    go : (answer : Result HolType Fault) → answer ≡ Ok ty → KnowsAnswer theory legal scope over answer → knows_type theory ty ≡ true
    go (Ok other) same known = (let one : other ≡ ty = cc in subst (λ (t : HolType). knows_type theory t ≡ true) one known)
    go (Err fault) same known = cc
