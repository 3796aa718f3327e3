-- What the walk over two types finds: the types that can be put are those that were, and make the one type the other.
use Rattle.std.proofs.Common.{◌≡◌, ◌⊎◌, inl, inr, ℕ, List, [], ◌∷◌, ◌++◌, Bool, true, false, refl, sym, ◌∙◌, ap, Option, Some, None, if◌then◌else◌}
use Rattle.std.specs.Prelude.{find}
use Rattle.std.specs.Str.{bytes_eq}
use Rattle.std.specs.Option.{option_and_then, option_or}
use Rattle.std.proofs.lemmas.List.Folds.{find-append}
use Rattle.std.proofs.lemmas.Slice.Eq.{bytes_eq-Decides}
use Rattle.hol_model.specs.Logic.Derivable.{IsMember}
use Rattle.hol_model.specs.Terms.HolType.{HolType, type_variable, bool_type, function_type, declared_type, type_eq, TypeInstance, instantiate_type, OccursInType}
use Rattle.hol_model.specs.Terms.NamedTerm.{NamedTerm}
use Rattle.hol_model.proofs.Terms.HolTypeEq.{type_eq-Decides, type_eq-self}
use Rattle.hol_model.proofs.Terms.Membership.{of_append, IsMember-append_left, IsMember-append_right}
use Rattle.hol_model.specs.Rewrites.Matching.{is_fixed_type}
use Rattle.hol_match.specs.Once.{IsOnce}
use Rattle.hol_match.specs.Walk.{Types, with_type, with_known_type, match_type}
use Rattle.hol_match.proofs.Once.{once_more, not_found}

-- the first element that passes is an element, and passes
pub found_member : {A : Type 0} (p : A → Bool) (xs : List A) (x : A) → find p xs ≡ Some x → IsMember x xs
found_member p [] x found = cc
found_member p (y ∷ ys) x found = go (p y) (found_member p ys x) found
  where
    go : (test : Bool) → (find p ys ≡ Some x → IsMember x ys) → (if test then Some y else find p ys) ≡ Some x → (x ≡ y) ⊎ IsMember x ys
    go true deeper found = inl cc
    go false deeper found = inr (deeper found)

pub found_passes : {A : Type 0} (p : A → Bool) (xs : List A) (x : A) → find p xs ≡ Some x → p x ≡ true
found_passes p [] x found = cc
found_passes p (y ∷ ys) x found = go (p y) refl (found_passes p ys x) found
  where
    go : (test : Bool) → p y ≡ test → (find p ys ≡ Some x → p x ≡ true) → (if test then Some y else find p ys) ≡ Some x → p x ≡ true
    go true passed deeper found = let same : y ≡ x = cc in sym (ap p same) ∙ passed
    go false passed deeper found = deeper found

-- a pair that was found stays the first, and a pair that is new is the first
pub found_before : {A : Type 0} (p : A → Bool) (xs ys : List A) (x : A) → find p xs ≡ Some x → find p (xs ++ ys) ≡ Some x
found_before p xs ys x found = find-append p xs ys ∙ ap (λ o. option_or o (find p ys)) found

pub found_last : {A : Type 0} (p : A → Bool) (xs : List A) (x : A) → find p xs ≡ None → p x ≡ true → find p (xs ++ x ∷ []) ≡ Some x
found_last p xs x absent passed = find-append p xs (x ∷ []) ∙ (ap (λ o. option_or o (find p (x ∷ []))) absent ∙ ap (λ (test : Bool). if test then Some x else None) passed)

-- the type variables in the types of the variables that stay are kept
pub record KeepsTypes (fixed : List NamedTerm) (tau : TypeInstance) : Type 0 where
  pub keeps : (name : List ℕ) → is_fixed_type fixed name ≡ true → tau name ≡ type_variable name

-- the types that are put are those of the pairs
pub record Solves (tau : TypeInstance) (types : Types) : Type 0 where
  pub puts : (pair : HolType × HolType) → IsMember pair types → instantiate_type tau pair.1 ≡ pair.0

-- a pair is for a type variable that may change, and is the first for it
pub record IsTypePair (fixed : List NamedTerm) (types : Types) (pair : HolType × HolType) : Type 0 where
  pub name : List ℕ
  pub is_old : pair.1 ≡ type_variable name
  pub may_change : is_fixed_type fixed name ≡ false
  pub counts : find (λ other. type_eq other.1 (type_variable name)) types ≡ Some pair

pub record IsTypeTable (fixed : List NamedTerm) (types : Types) : Type 0 where
  pub pairs : (pair : HolType × HolType) → IsMember pair types → IsTypePair fixed types pair
  pub once : IsOnce types

-- a pair is for a type variable of a type
pub record IsPairFor (generic : HolType) (pair : HolType × HolType) : Type 0 where
  pub name : List ℕ
  pub is_old : pair.1 ≡ type_variable name
  pub occurs : OccursInType name generic

pub record TypesFound (fixed : List NamedTerm) (types : Types) (generic ty : HolType) (more : Types) : Type 0 where
  pub solves_more : (tau : TypeInstance) → KeepsTypes fixed tau → Solves tau types → instantiate_type tau generic ≡ ty → Solves tau more
  pub solved_before : (tau : TypeInstance) → Solves tau more → Solves tau types
  pub gives : (tau : TypeInstance) → KeepsTypes fixed tau → Solves tau more → instantiate_type tau generic ≡ ty
  pub table : IsTypeTable fixed types → IsTypeTable fixed more
  pub named : (pair : HolType × HolType) → IsMember pair more → IsMember pair types ⊎ IsPairFor generic pair

abbrev pub TypeAnswer : List NamedTerm → Types → HolType → HolType → Option Types → Type 0
TypeAnswer fixed types generic ty None = (tau : TypeInstance) → KeepsTypes fixed tau → Solves tau types → instantiate_type tau generic ≡ ty → ⊥
TypeAnswer fixed types generic ty (Some more) = TypesFound fixed types generic ty more

-- nothing more where the types are one whatever is put
nothing_more : (fixed : List NamedTerm) (types : Types) (generic ty : HolType)
    → ((tau : TypeInstance) → KeepsTypes fixed tau → Solves tau types → instantiate_type tau generic ≡ ty) → TypesFound fixed types generic ty types
nothing_more fixed types generic ty same = record {
  solves_more = λ tau keeps solves e. solves;
  solved_before = λ tau solves. solves;
  gives = same;
  table = λ table. table;
  named = λ pair member. inl member;
}

from_false : (a b : HolType) → type_eq a b ≡ false → a ≡ b → ⊥
from_false a b failed same = let passed : type_eq a b ≡ true = (type_eq-Decides a b).1 same in cc

more_pairs : (fixed : List NamedTerm) (types : Types) (name : List ℕ) (ty : HolType) → is_fixed_type fixed name ≡ false
    → find (λ pair. type_eq pair.1 (type_variable name)) types ≡ None
    → TypesFound fixed types (type_variable name) ty (types ++ (ty, type_variable name) ∷ [])
more_pairs fixed types name ty changes absent = record {
  solves_more = λ tau keeps solves e. record { puts = λ pair member. put_one tau solves e pair (of_append pair types (new ∷ []) member) };
  solved_before = λ tau solves. record { puts = λ pair member. solves.puts pair (IsMember-append_left pair types (new ∷ []) member) };
  gives = λ tau keeps solves. solves.puts new (IsMember-append_right new types (new ∷ []) (inl refl));
  table = λ table. record {
    pairs = λ pair member. is_pair table pair (of_append pair types (new ∷ []) member);
    once = once_more types new table.once (not_found (λ other. type_eq other.1 (type_variable name)) types new absent (type_eq-self (type_variable name)));
  };
  named = λ pair member. is_named pair (of_append pair types (new ∷ []) member);
}
  where
    new : HolType × HolType
    new = (ty, type_variable name)

    put_one : (tau : TypeInstance) → Solves tau types → tau name ≡ ty → (pair : HolType × HolType) → IsMember pair types ⊎ IsMember pair (new ∷ [])
        → instantiate_type tau pair.1 ≡ pair.0
    put_one tau solves e pair (inl member) = solves.puts pair member
    put_one tau solves e pair (inr (inl same)) = rw same e
    put_one tau solves e pair (inr (inr none)) = absurd none

    is_pair : IsTypeTable fixed types → (pair : HolType × HolType) → IsMember pair types ⊎ IsMember pair (new ∷ []) → IsTypePair fixed (types ++ new ∷ []) pair
    is_pair table pair (inl member) =
        let known = table.pairs pair member in
        record {
          name = known.name;
          is_old = known.is_old;
          may_change = known.may_change;
          counts = found_before (λ other. type_eq other.1 (type_variable known.name)) types (new ∷ []) pair known.counts;
        }
    is_pair table pair (inr (inl same)) = record {
      name = name;
      is_old = ap (λ (p : HolType × HolType). p.1) same;
      may_change = changes;
      counts = found_last (λ other. type_eq other.1 (type_variable name)) types new absent (type_eq-self (type_variable name)) ∙ ap Some (sym same);
    }
    is_pair table pair (inr (inr none)) = absurd none

    is_named : (pair : HolType × HolType) → IsMember pair types ⊎ IsMember pair (new ∷ []) → IsMember pair types ⊎ IsPairFor (type_variable name) pair
    is_named pair (inl member) = inl member
    is_named pair (inr (inl same)) = inr (record { name = name; is_old = ap (λ (p : HolType × HolType). p.1) same; occurs = refl })
    is_named pair (inr (inr none)) = absurd none

known_answer : (fixed : List NamedTerm) (types : Types) (name : List ℕ) (ty : HolType) → is_fixed_type fixed name ≡ false
    → (found : Option (HolType × HolType)) → find (λ pair. type_eq pair.1 (type_variable name)) types ≡ found
    → TypeAnswer fixed types (type_variable name) ty (with_known_type types name ty found)
known_answer fixed types name ty changes None absent = more_pairs fixed types name ty changes absent
known_answer fixed types name ty changes (Some pair) found = go (type_eq pair.0 ty) refl
  where
    is_put : (tau : TypeInstance) → Solves tau types → tau name ≡ pair.0
    is_put tau solves =
        let member : IsMember pair types = found_member (λ other. type_eq other.1 (type_variable name)) types pair found in
        let old : pair.1 ≡ type_variable name = (type_eq-Decides pair.1 (type_variable name)).0 (found_passes (λ other. type_eq other.1 (type_variable name)) types pair found) in
        sym (ap (instantiate_type tau) old) ∙ solves.puts pair member

    go : (test : Bool) → type_eq pair.0 ty ≡ test → TypeAnswer fixed types (type_variable name) ty (if test then Some types else None)
    go true passed = nothing_more fixed types (type_variable name) ty (λ tau keeps solves. is_put tau solves ∙ (type_eq-Decides pair.0 ty).0 passed)
    go false failed = λ tau keeps solves e. from_false pair.0 ty failed (sym (is_put tau solves) ∙ e)

variable_answer : (fixed : List NamedTerm) (types : Types) (name : List ℕ) (ty : HolType) → TypeAnswer fixed types (type_variable name) ty (with_type fixed types name ty)
variable_answer fixed types name ty = go (is_fixed_type fixed name) refl
  where
    fixed_answer : is_fixed_type fixed name ≡ true → (test : Bool) → type_eq ty (type_variable name) ≡ test
        → TypeAnswer fixed types (type_variable name) ty (if test then Some types else None)
    fixed_answer stays true passed = nothing_more fixed types (type_variable name) ty (λ tau keeps solves. keeps.keeps name stays ∙ sym ((type_eq-Decides ty (type_variable name)).0 passed))
    fixed_answer stays false failed = λ tau keeps solves e. from_false ty (type_variable name) failed (sym e ∙ keeps.keeps name stays)

    go : (test : Bool) → is_fixed_type fixed name ≡ test
        → TypeAnswer fixed types (type_variable name) ty (if test then (if type_eq ty (type_variable name) then Some types else None)
        else with_known_type types name ty (find (λ pair. type_eq pair.1 (type_variable name)) types))
    go true stays = fixed_answer stays (type_eq ty (type_variable name)) refl
    go false changes = known_answer fixed types name ty changes (find (λ pair. type_eq pair.1 (type_variable name)) types) refl

-- two parts, one after the other
both_found : (fixed : List NamedTerm) (types : Types) (a b c d : HolType) (more last : Types)
    → TypesFound fixed types a c more → TypesFound fixed more b d last → TypesFound fixed types (function_type a b) (function_type c d) last
both_found fixed types a b c d more last first second = record {
  solves_more = λ tau keeps solves e. second.solves_more tau keeps (first.solves_more tau keeps solves cc) cc;
  solved_before = λ tau solves. first.solved_before tau (second.solved_before tau solves);
  gives = λ tau keeps solves i. function_type (first.gives tau keeps (second.solved_before tau solves) i) (second.gives tau keeps solves i);
  table = λ table. second.table (first.table table);
  named = λ pair member. name_first pair (second.named pair member);
}
  where
    name_second : (pair : HolType × HolType) → IsMember pair types ⊎ IsPairFor a pair → IsMember pair types ⊎ IsPairFor (function_type a b) pair
    name_second pair (inl member) = inl member
    name_second pair (inr known) = inr (record { name = known.name; is_old = known.is_old; occurs = inl known.occurs })

    name_first : (pair : HolType × HolType) → IsMember pair more ⊎ IsPairFor b pair → IsMember pair types ⊎ IsPairFor (function_type a b) pair
    name_first pair (inl member) = name_second pair (first.named pair member)
    name_first pair (inr known) = inr (record { name = known.name; is_old = known.is_old; occurs = inr known.occurs })

both_answer : (fixed : List NamedTerm) (types : Types) (a b c d : HolType) (rest : Types → Option Types) (first : Option Types)
    → TypeAnswer fixed types a c first → ((more : Types) → TypeAnswer fixed more b d (rest more))
    → TypeAnswer fixed types (function_type a b) (function_type c d) (option_and_then rest first)
both_answer fixed types a b c d rest None answer deeper = λ tau keeps solves e. answer tau keeps solves cc
both_answer fixed types a b c d rest (Some more) answer deeper = go (rest more) (deeper more)
  where
    go : (second : Option Types) → TypeAnswer fixed more b d second → TypeAnswer fixed types (function_type a b) (function_type c d) second
    go None none = λ tau keeps solves e. none tau keeps (answer.solves_more tau keeps solves cc) cc
    go (Some last) found = both_found fixed types a b c d more last answer found

declared_answer : (fixed : List NamedTerm) (types : Types) (a b : List ℕ) (test : Bool) → bytes_eq a b ≡ test
    → TypeAnswer fixed types (declared_type a) (declared_type b) (if test then Some types else None)
declared_answer fixed types a b true passed = nothing_more fixed types (declared_type a) (declared_type b) (λ tau keeps solves. ap declared_type ((bytes_eq-Decides a b).0 passed))
declared_answer fixed types a b false failed = λ tau keeps solves e. let same : bytes_eq a b ≡ true = (bytes_eq-Decides a b).1 cc in cc

pub type_answer : (fixed : List NamedTerm) (types : Types) (generic ty : HolType) → TypeAnswer fixed types generic ty (match_type fixed types generic ty)
type_answer fixed types (type_variable name) ty = variable_answer fixed types name ty
type_answer fixed types bool_type bool_type = nothing_more fixed types bool_type bool_type (λ tau keeps solves. refl)
type_answer fixed types (function_type a b) (function_type c d) =
    both_answer fixed types a b c d (λ more. match_type fixed more b d) (match_type fixed types a c) (type_answer fixed types a c) (λ more. type_answer fixed more b d)
type_answer fixed types (declared_type a) (declared_type b) = declared_answer fixed types a b (bytes_eq a b) refl
type_answer fixed types bool_type (type_variable other) = λ tau keeps solves e. cc
type_answer fixed types bool_type (function_type c d) = λ tau keeps solves e. cc
type_answer fixed types bool_type (declared_type b) = λ tau keeps solves e. cc
type_answer fixed types (function_type a b) (type_variable other) = λ tau keeps solves e. cc
type_answer fixed types (function_type a b) bool_type = λ tau keeps solves e. cc
type_answer fixed types (function_type a b) (declared_type d) = λ tau keeps solves e. cc
type_answer fixed types (declared_type a) (type_variable other) = λ tau keeps solves e. cc
type_answer fixed types (declared_type a) bool_type = λ tau keeps solves e. cc
type_answer fixed types (declared_type a) (function_type c d) = λ tau keeps solves e. cc
