-- A pattern that matches fits, and two matches put the same for what stands in the pattern.
use Rattle.std.proofs.Common.{◌≡◌, inl, inr, ℕ, List, [], Bool, true, false, ◌||◌, refl, sym, ◌∙◌, subst}
use Rattle.std.proofs.lemmas.Slice.Eq.{bytes_eq-Decides}
use Rattle.hol_model.specs.Terms.HolType.{HolType, type_variable, bool_type, function_type, declared_type, TypeInstance, instantiate_type, OccursInType}
use Rattle.hol_model.specs.Terms.NamedTerm.{NamedTerm, variable, constant, combination, abstraction}
use Rattle.hol_model.specs.Terms.Nameless.{Nameless, free, const, bound, app, lam, HasType, image}
use Rattle.hol_model.specs.Terms.Substitution.{TermInstance, put, instantiate, occurs_free, OccursInTerm}
use Rattle.hol_model.proofs.Tests.{same_name, same_variable-type}
use Rattle.hol_model.proofs.Terms.Typing.{one_type}
use Rattle.hol_model.specs.Rewrites.Matching.{MatchesAgree, MatchingPatternsFit, fits}

-- a pattern that matches fits

fits_where : (pattern term : NamedTerm) (tau : TypeInstance) (theta : TermInstance) → put theta (instantiate tau (image pattern)) ≡ image term → fits pattern term ≡ true
fits_where (variable name ty) term tau theta e = refl
fits_where (constant name ty) (constant other s) tau theta e = (bytes_eq-Decides name other).1 cc
fits_where (combination f x) (combination g y) tau theta e =
    let first : fits f g ≡ true = fits_where f g tau theta cc in
    let second : fits x y ≡ true = fits_where x y tau theta cc in
    cc
fits_where (abstraction name ty body) (abstraction other s part) tau theta e = refl
fits_where (constant name ty) (variable other s) tau theta e = cc
fits_where (constant name ty) (combination g y) tau theta e = cc
fits_where (constant name ty) (abstraction other s part) tau theta e = cc
fits_where (combination f x) (variable other s) tau theta e = cc
fits_where (combination f x) (constant other s) tau theta e = cc
fits_where (combination f x) (abstraction other s part) tau theta e = cc
fits_where (abstraction name ty body) (variable other s) tau theta e = cc
fits_where (abstraction name ty body) (constant other s) tau theta e = cc
fits_where (abstraction name ty body) (combination g y) tau theta e = cc

pub matching_patterns_fit : MatchingPatternsFit
matching_patterns_fit fixed pattern term tau theta match = fits_where pattern term tau theta match.gives_term

-- two matches put the same

same_type_put : (tau rho : TypeInstance) (ty : HolType) → instantiate_type tau ty ≡ instantiate_type rho ty → (name : List ℕ) → OccursInType name ty → tau name ≡ rho name
same_type_put tau rho (type_variable other) e name occurs = rw occurs e
same_type_put tau rho bool_type e name occurs = absurd occurs
same_type_put tau rho (function_type a b) e name (inl occurs) = same_type_put tau rho a (cc) name occurs
same_type_put tau rho (function_type a b) e name (inr occurs) = same_type_put tau rho b (cc) name occurs
same_type_put tau rho (declared_type other) e name occurs = absurd occurs

-- terms of the types of variables are put
pub record Fits (theta : TermInstance) : Type 0 where
  pub typed : (name : List ℕ) (ty : HolType) → HasType [] (theta name ty) ty

free_type : (theta eta : TermInstance) → Fits theta → Fits eta → (name : List ℕ) (a b : HolType) → theta name a ≡ eta name b → a ≡ b
free_type theta eta fit suits name a b e = one_type (theta name a) a b (fit.typed name a) (subst (λ (t : Nameless). HasType [] t b) (sym e) (suits.typed name b))

same_types : (tau rho : TypeInstance) (theta eta : TermInstance) → Fits theta → Fits eta → (pattern : Nameless)
    → put theta (instantiate tau pattern) ≡ put eta (instantiate rho pattern) → (name : List ℕ) → OccursInTerm name pattern → tau name ≡ rho name
same_types tau rho theta eta fit suits (free other ty) e name occurs =
    same_type_put tau rho ty (free_type theta eta fit suits other (instantiate_type tau ty) (instantiate_type rho ty) e) name occurs
same_types tau rho theta eta fit suits (const other ty) e name occurs = same_type_put tau rho ty (cc) name occurs
same_types tau rho theta eta fit suits (bound index) e name occurs = absurd occurs
same_types tau rho theta eta fit suits (app f x) e name (inl occurs) = same_types tau rho theta eta fit suits f (cc) name occurs
same_types tau rho theta eta fit suits (app f x) e name (inr occurs) = same_types tau rho theta eta fit suits x (cc) name occurs
same_types tau rho theta eta fit suits (lam ty body) e name (inl occurs) = same_type_put tau rho ty (cc) name occurs
same_types tau rho theta eta fit suits (lam ty body) e name (inr occurs) = same_types tau rho theta eta fit suits body (cc) name occurs

same_terms : (tau rho : TypeInstance) (theta eta : TermInstance) → Fits theta → Fits eta → (pattern : Nameless)
    → put theta (instantiate tau pattern) ≡ put eta (instantiate rho pattern)
    → (name : List ℕ) (ty : HolType) → occurs_free name ty (instantiate tau pattern) ≡ true → theta name ty ≡ eta name ty
same_terms tau rho theta eta fit suits (free other a) e name ty occurs =
    let same : name ≡ other = same_name name other ty (instantiate_type tau a) occurs in
    let type : ty ≡ instantiate_type tau a = same_variable-type name other ty (instantiate_type tau a) occurs in
    let types : instantiate_type tau a ≡ instantiate_type rho a = free_type theta eta fit suits other (instantiate_type tau a) (instantiate_type rho a) e in
    (λ i. theta (same i) (type i)) ∙ (e ∙ sym (λ i. eta (same i) ((type ∙ types) i)))
same_terms tau rho theta eta fit suits (const other a) e name ty occurs = cc
same_terms tau rho theta eta fit suits (bound index) e name ty occurs = cc
same_terms tau rho theta eta fit suits (app f x) e name ty occurs =
    go (occurs_free name ty (instantiate tau f)) (occurs_free name ty (instantiate tau x))
    (same_terms tau rho theta eta fit suits f (cc) name ty) (same_terms tau rho theta eta fit suits x (cc) name ty) occurs
  where
    go : (p q : Bool) → (p ≡ true → theta name ty ≡ eta name ty) → (q ≡ true → theta name ty ≡ eta name ty) → (p || q) ≡ true → theta name ty ≡ eta name ty
    go true q first second passed = first refl
    go false q first second passed = second passed
same_terms tau rho theta eta fit suits (lam a body) e name ty occurs = same_terms tau rho theta eta fit suits body (cc) name ty occurs

pub matches_agree : MatchesAgree
matches_agree fixed pattern term tau rho theta eta first second = record {
  same_types = same_types tau rho theta eta (record { typed = first.may_be_put.typed }) (record { typed = second.may_be_put.typed }) (image pattern)
      (first.gives_term ∙ sym second.gives_term);
  same_terms = same_terms tau rho theta eta (record { typed = first.may_be_put.typed }) (record { typed = second.may_be_put.typed }) (image pattern)
      (first.gives_term ∙ sym second.gives_term);
}

pub ruleset laws = (matching_patterns_fit, matches_agree)
