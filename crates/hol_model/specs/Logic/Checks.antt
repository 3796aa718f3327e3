-- Tests that compute whether terms without bound names are known and theories legal.
use Rattle.std.specs.Prelude.{◌≡◌, ◌&&◌, ℕ, List, [], ◌∷◌, Bool, true, false, Option, Some, slice_get}
use Rattle.std.specs.Option.{option_map, option_map_or}
use Rattle.std.specs.Bool.{Decides}
use Rattle.hol_model.specs.Terms.Name.{is_constant_name, is_declared_type_name}
use Rattle.hol_model.specs.Terms.HolType.{HolType, function_type, type_eq, is_instance, OccursInType}
use Rattle.hol_model.specs.Terms.NamedTerm.{NamedTerm, type_of, application_type}
use Rattle.hol_model.specs.Terms.Nameless.{Nameless, free, const, bound, app, lam, image, HasType}
use Rattle.hol_model.specs.Terms.Substitution.{HasNoFree, OccursInTerm}
use Rattle.hol_model.specs.Logic.Theory.{Theory, definition, declaration_of_type, declaration_of_constant, generic_type, IsLegal, IsKnown, IsNewName}
use Rattle.hol_model.specs.Logic.KnownTerm.{knows_type, is_known}
use Rattle.hol_model.specs.Logic.Legality.{is_closed, reflects_type, reflects, is_fixed, is_new_name}

-- the type of a term, where it has one
abbrev pub found_type : List HolType → Nameless → Option HolType
found_type binders (free name ty) = Some ty
found_type binders (const name ty) = Some ty
found_type binders (bound index) = slice_get binders index
found_type binders (app function argument) = application_type (found_type binders function) (found_type binders argument)
found_type binders (lam ty body) = option_map (function_type ty) (found_type (ty ∷ binders) body)

-- the term has the type
abbrev pub has_type : Nameless → HolType → Bool
has_type term ty = option_map_or (λ found. type_eq found ty) (found_type [] term) false

-- the constant is there, at an instance of its generic type
abbrev pub knows_constant : Theory → List ℕ → HolType → Bool
knows_constant theory name ty = option_map_or (λ generic. is_instance generic ty) (generic_type theory name) false

-- each constant in it is there, at an instance of its generic type, and each declared type was declared
abbrev pub has_known_parts : Theory → Nameless → Bool
has_known_parts theory (free name ty) = knows_type theory ty
has_known_parts theory (const name ty) = knows_type theory ty && knows_constant theory name ty
has_known_parts theory (bound index) = true
has_known_parts theory (app function argument) = has_known_parts theory function && has_known_parts theory argument
has_known_parts theory (lam ty body) = knows_type theory ty && has_known_parts theory body

-- a term that has the type, with known constants and types
abbrev pub knows_nameless : Theory → Nameless → HolType → Bool
knows_nameless theory term ty = has_type term ty && has_known_parts theory term

-- no variable is free in the term
abbrev pub has_no_free : Nameless → Bool
has_no_free (free name ty) = false
has_no_free (const name ty) = true
has_no_free (bound index) = true
has_no_free (app function argument) = has_no_free function && has_no_free argument
has_no_free (lam ty body) = has_no_free body

-- each type variable of the types in the term stands in the type
abbrev pub reflects_nameless : HolType → Nameless → Bool
reflects_nameless whole (free name ty) = reflects_type whole ty
reflects_nameless whole (const name ty) = reflects_type whole ty
reflects_nameless whole (bound index) = true
reflects_nameless whole (app function argument) = reflects_nameless whole function && reflects_nameless whole argument
reflects_nameless whole (lam ty body) = reflects_type whole ty && reflects_nameless whole body

-- what a definition, a declaration of a constant and one of a type are accepted for

abbrev pub is_legal_definition : Theory → List ℕ → HolType → Nameless → Bool
is_legal_definition theory name ty body =
    is_constant_name name && (is_new_name theory name && (knows_nameless theory body ty && (has_no_free body && reflects_nameless ty body)))

abbrev pub is_legal_constant : Theory → List ℕ → HolType → Bool
is_legal_constant theory name ty = is_constant_name name && (is_new_name theory name && (knows_type theory ty && is_fixed ty))

abbrev pub is_legal_type : Theory → List ℕ → Bool
is_legal_type theory name = is_declared_type_name name && is_new_name theory name

-- each entry is legal over the earlier ones
abbrev pub is_legal : Theory → Bool
is_legal [] = true
is_legal (definition name ty body ∷ rest) = is_legal_definition rest name ty body && is_legal rest
is_legal (declaration_of_type name ∷ rest) = is_legal_type rest name && is_legal rest
is_legal (declaration_of_constant name ty ∷ rest) = is_legal_constant rest name ty && is_legal rest

-- the tests are right
pub record ChecksDecide : Type 0 where
  pub known : (theory : Theory) (term : Nameless) (ty : HolType) → Decides (knows_nameless theory term ty) (IsKnown theory term ty)
  pub known_image : (theory : Theory) (term : NamedTerm) (ty : HolType) → type_of term ≡ Some ty → Decides (is_known theory term) (IsKnown theory (image term) ty)
  pub legal : (theory : Theory) → Decides (is_legal theory) (IsLegal theory)
  pub closed : (term : NamedTerm) → Decides (is_closed term) (HasNoFree (image term))
  pub reflected : (whole : HolType) (term : NamedTerm) → Decides (reflects whole term) ((variable : List ℕ) → OccursInTerm variable (image term) → OccursInType variable whole)
  pub fixed : (ty : HolType) → Decides (is_fixed ty) ((variable : List ℕ) → ¬ (OccursInType variable ty))
  pub new_name : (theory : Theory) (name : List ℕ) → Decides (is_new_name theory name) (IsNewName theory name)

-- a term with names has a type where its image has it, and only there
pub record TypesAreOfImages : Type 0 where
  pub typed : (term : NamedTerm) (ty : HolType) → type_of term ≡ Some ty → HasType [] (image term) ty
  pub type_is : (term : NamedTerm) (ty : HolType) → HasType [] (image term) ty → type_of term ≡ Some ty
