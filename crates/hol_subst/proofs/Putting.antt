-- A list of pairs and its entries replace the same.
use Rattle.std.proofs.Common.{◌≡◌, ℕ, List, [], ◌∷◌, Bool, true, false, Some, None, refl, ap, ◌∙◌}
use Rattle.std.specs.Prelude.{Option, if◌then◌else◌, find}
use Rattle.std.specs.Option.{option_map, option_map_or}
use Rattle.hol_model.specs.Terms.HolType.{HolType, type_variable, bool_type, function_type, declared_type, type_instance_of, type_put}
use Rattle.hol_model.specs.Terms.NamedTerm.{NamedTerm, variable, constant, combination, abstraction, same_variable}
use Rattle.hol_model.specs.Terms.Nameless.{Nameless, free, const, bound, app, lam, image}
use Rattle.hol_model.specs.Terms.Substitution.{is_variable_named, put, replacement, instantiate}
use Rattle.hol_model.proofs.Tests.{same_leaf}
use Rattle.hol_model.proofs.Terms.Images.{occurs_free-image}
use Rattle.hol_subst.specs.Entries.{entries, looked_up, replaced}

found_choice : (here : Bool) (pair : NamedTerm × NamedTerm) (rest : Option (NamedTerm × NamedTerm))
    → option_map (λ (p : NamedTerm × NamedTerm). p.0) (if here then Some pair else rest)
    ≡ (if here then Some pair.0 else option_map (λ (p : NamedTerm × NamedTerm). p.0) rest)
found_choice true pair rest = refl
found_choice false pair rest = refl

-- what the entries of a list hold for a variable is in its first pair for it
pub find-entries : (theta : List (NamedTerm × NamedTerm)) (name : List ℕ) (ty : HolType)
    → option_map (λ (p : NamedTerm × NamedTerm). p.0) (find (λ pair. is_variable_named name ty pair.1) theta) ≡ looked_up (entries theta) name ty
find-entries [] name ty = refl
find-entries ((new, variable other s) ∷ rest) name ty =
    found_choice (same_variable other s name ty) (new, variable other s) (find (λ pair. is_variable_named name ty pair.1) rest)
    ∙ ap (λ v. if same_variable other s name ty then Some new else v) (find-entries rest name ty)
find-entries ((new, constant other s) ∷ rest) name ty = find-entries rest name ty
find-entries ((new, combination f a) ∷ rest) name ty = find-entries rest name ty
find-entries ((new, abstraction other s body) ∷ rest) name ty = find-entries rest name ty

-- what passes the test for a variable is that variable
pub named_variable : (name : List ℕ) (ty : HolType) (term : NamedTerm) (test : Bool) → test ≡ is_variable_named name ty term → test ≡ true → term ≡ variable name ty
named_variable name ty (variable other s) test is passed = same_leaf variable other name s ty test is passed
named_variable name ty (constant other s) test is passed = cc
named_variable name ty (combination f a) test is passed = cc
named_variable name ty (abstraction other s body) test is passed = cc

-- no pairs change no type
pub type_put-none : (ty : HolType) → type_put [] ty ≡ ty
type_put-none (type_variable name) = refl
type_put-none bool_type = refl
type_put-none (function_type a b) = λ i. function_type (type_put-none a i) (type_put-none b i)
type_put-none (declared_type name) = refl

put_choice : (pair : Option (NamedTerm × NamedTerm)) (default : Nameless)
    → option_map_or image (option_map (λ (p : NamedTerm × NamedTerm). p.0) pair) default ≡ option_map_or (λ (p : NamedTerm × NamedTerm). image p.0) pair default
put_choice None default = refl
put_choice (Some pair) default = refl

-- to replace by the entries of a list, types kept, is to put by the list
pub replaced-put : (theta : List (NamedTerm × NamedTerm)) (term : Nameless) → replaced (entries theta) [] term ≡ put (replacement theta) term
replaced-put theta (free name ty) =
    rw (← find-entries theta name ty, type_put-none ty) (put_choice (find (λ pair. is_variable_named name ty pair.1) theta) (free name ty))
replaced-put theta (const name ty) = ap (const name) (type_put-none ty)
replaced-put theta (bound index) = refl
replaced-put theta (app f a) = λ i. app (replaced-put theta f i) (replaced-put theta a i)
replaced-put theta (lam ty body) = λ i. lam (type_put-none ty i) (replaced-put theta body i)

-- to replace types alone is to instantiate
pub replaced-instantiate : (types : List (HolType × HolType)) (term : Nameless) → replaced [] types term ≡ instantiate (type_instance_of types) term
replaced-instantiate types (free name ty) = refl
replaced-instantiate types (const name ty) = refl
replaced-instantiate types (bound index) = refl
replaced-instantiate types (app f a) = λ i. app (replaced-instantiate types f i) (replaced-instantiate types a i)
replaced-instantiate types (lam ty body) = λ i. lam (type_put types ty) (replaced-instantiate types body i)

pub ruleset standing = (occurs_free-image)

pub ruleset putting = (replaced-put, replaced-instantiate)
