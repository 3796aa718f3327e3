-- What a match makes of a rule: of its equation, and of its hypotheses.
use Rattle.std.proofs.Common.{◌≡◌, ℕ, List, [], ◌∷◌, Bool, true, false, ◌||◌, refl, sym, ◌∙◌, ap}
use Rattle.hol_model.specs.Terms.HolType.{HolType, type_variable, bool_type, function_type, declared_type, TypeInstance, instantiate_type}
use Rattle.hol_model.specs.Terms.NamedTerm.{NamedTerm}
use Rattle.hol_model.specs.Terms.Nameless.{Nameless, free, const, bound, app, lam, image}
use Rattle.hol_model.specs.Terms.Substitution.{TermInstance, put, instantiate, is_variable_named, occurs_free}
use Rattle.hol_model.specs.Logic.Derivable.{nameless_equation}
use Rattle.hol_model.proofs.Terms.Images.{image-equation}
use Rattle.hol_model.proofs.Tests.{same_variable-self}
use Rattle.std.proofs.lemmas.Slice.Eq.{bytes_eq-Decides}
use Rattle.hol_model.specs.Rewrites.Matching.{stands_in_type, stands_in_variable, is_fixed, is_fixed_type, MayBePut, EquationsMatch, FixedVariablesStay}
use Rattle.hol_match.proofs.TermMatching.{named_variable}

pub equations_match : EquationsMatch
equations_match fixed left right term ty tau theta match typed =
    ap (λ (whole : Nameless). put theta (instantiate tau whole)) (image-equation left right ty typed)
    ∙ ap (λ (side : Nameless). nameless_equation (instantiate_type tau ty) side (put theta (instantiate tau (image right)))) match.gives_term

or_first : (p q : Bool) → p ≡ true → (p || q) ≡ true
or_first p q passed = cc

or_second : (p q : Bool) → q ≡ true → (p || q) ≡ true
or_second true q passed = refl
or_second false q passed = passed

-- a type whose type variables are kept stays
kept_type : (tau : TypeInstance) (ty : HolType) → ((name : List ℕ) → stands_in_type name ty ≡ true → tau name ≡ type_variable name) → instantiate_type tau ty ≡ ty
kept_type tau (type_variable name) keeps = keeps name ((bytes_eq-Decides name name).1 refl)
kept_type tau bool_type keeps = refl
kept_type tau (function_type a b) keeps = λ i. function_type
    (kept_type tau a (λ name stands. keeps name (or_first (stands_in_type name a) (stands_in_type name b) stands)) i)
    (kept_type tau b (λ name stands. keeps name (or_second (stands_in_type name a) (stands_in_type name b) stands)) i)
kept_type tau (declared_type name) keeps = refl

-- the type variables of a variable that stays are kept
fixed_type : (fixed : List NamedTerm) (name : List ℕ) (ty : HolType) (tyvar : List ℕ) → is_fixed fixed name ty ≡ true → stands_in_type tyvar ty ≡ true → is_fixed_type fixed tyvar ≡ true
fixed_type [] name ty tyvar stays stands = cc
fixed_type (first ∷ rest) name ty tyvar stays stands = go (is_variable_named name ty first) refl (fixed_type rest name ty tyvar) stays
  where
    go : (test : Bool) → is_variable_named name ty first ≡ test
        → (is_fixed rest name ty ≡ true → stands_in_type tyvar ty ≡ true → is_fixed_type rest tyvar ≡ true)
        → (test || is_fixed rest name ty) ≡ true → (stands_in_variable tyvar first || is_fixed_type rest tyvar) ≡ true
    go true is deeper passed =
        or_first (stands_in_variable tyvar first) (is_fixed_type rest tyvar) (ap (stands_in_variable tyvar) (named_variable name ty first is) ∙ stands)
    go false is deeper passed = or_second (stands_in_variable tyvar first) (is_fixed_type rest tyvar) (deeper passed stands)

kept_variable : (fixed : List NamedTerm) (tau : TypeInstance) (theta : TermInstance) → MayBePut fixed tau theta → (name : List ℕ) (ty : HolType) → is_fixed fixed name ty ≡ true
    → theta name (instantiate_type tau ty) ≡ free name (instantiate_type tau ty)
kept_variable fixed tau theta may name ty stays =
    let same : instantiate_type tau ty ≡ ty = kept_type tau ty (λ tyvar stands. may.keeps_types tyvar (fixed_type fixed name ty tyvar stays stands)) in
    ap (theta name) same ∙ (may.keeps_variables name ty stays ∙ ap (free name) (sym same))

pub fixed_variables_stay : FixedVariablesStay
fixed_variables_stay fixed tau theta may (free name ty) all = kept_variable fixed tau theta may name ty (all name ty (same_variable-self name ty))
fixed_variables_stay fixed tau theta may (const name ty) all = refl
fixed_variables_stay fixed tau theta may (bound index) all = refl
fixed_variables_stay fixed tau theta may (app f x) all = λ i. app
    (fixed_variables_stay fixed tau theta may f (λ name ty occurs. all name ty (or_first (occurs_free name ty f) (occurs_free name ty x) occurs)) i)
    (fixed_variables_stay fixed tau theta may x (λ name ty occurs. all name ty (or_second (occurs_free name ty f) (occurs_free name ty x) occurs)) i)
fixed_variables_stay fixed tau theta may (lam ty body) all = ap (lam (instantiate_type tau ty)) (fixed_variables_stay fixed tau theta may body all)

pub ruleset instances = (equations_match, fixed_variables_stay)
