-- The form of a term by its outermost parts.
use Rattle.std.proofs.Common.{◌≡◌, ℕ, ◌+◌, Bool, true, false, List, Option, None, Some, refl, sym, ap, ◌∙◌, subst, if◌then◌else◌, codes, unwrap_or, Bor}
use Rattle.std.specs.Str.{bytes_eq}
use Rattle.hol_model.specs.Terms.Name.{is_identifier}
use Rattle.hol_model.specs.Terms.HolType.{HolType, bool_type, function_type, type_eq}
use Rattle.hol_model.specs.Terms.NamedTerm.{NamedTerm, variable, constant, combination, abstraction, dest_constant}
use Rattle.hol_model.specs.Texts.TermGrammar.{Infix, Binder, Lambda, ForAll, Exists, Choice, TermTree, Leaf, Bare, Variable, Join, Bind, infix_level}
use Rattle.hol_model.specs.Texts.Reading.{Scope, Bindings, bound_type, is_closed_type}
use Rattle.hol_types.specs.declared.ty.Ty.{Ty}
use Rattle.hol_terms.specs.declared.term.Term.{Term}
use Rattle.hol_terms.specs.declared.term.Parts.{Parts}
use Rattle.hol_terms.specs.declared.term.Parts.TheVariants.{Variable as VariableParts, Constant as ConstantParts, Combination as CombinationParts, Abstraction as AbstractionParts}
use Rattle.hol_terms.specs.Parts.{term_of_parts}
use Rattle.hol_model.specs.Texts.Printing.{type_tree, enclose, variable_tree, typed_constant, bare_tree, constant_tree, infix_of, Prefix, NotPrefix, BinderPrefix, NoPrefix, negation_prefix}
use Rattle.hol_model.specs.Texts.Printing.{quantifier_prefix, choice_prefix, prefix_of, apply_tree, binder_tree, prefix_tree, infix_tree, term_tree}

-- a tree that is no abstraction's
abbrev pub IsNoLambda : TermTree → Type 0
IsNoLambda (Bind Lambda name ty body) = ⊥
IsNoLambda _ = Unit {0}

abbrev IsNoAbstraction : NamedTerm → Type 0
IsNoAbstraction (abstraction name ty body) = ⊥
IsNoAbstraction _ = Unit {0}

-- no constant stands for the binder of abstractions
abbrev IsQuantifier : Prefix → Type 0
IsQuantifier (BinderPrefix Lambda) = ⊥
IsQuantifier _ = Unit {0}

pick_prefix : (b : Bool) (x y : Prefix) → IsQuantifier x → IsQuantifier y → IsQuantifier (if b then x else y)
pick_prefix true x y h k = h
pick_prefix false x y h k = k

negation_is : (ty : HolType) → IsQuantifier (negation_prefix ty)
negation_is (function_type bool_type bool_type) = tt
negation_is _ = tt

for_all_is : (ty : HolType) → IsQuantifier (quantifier_prefix ty ForAll)
for_all_is (function_type (function_type a bool_type) bool_type) = tt
for_all_is _ = tt

exists_is : (ty : HolType) → IsQuantifier (quantifier_prefix ty Exists)
exists_is (function_type (function_type a bool_type) bool_type) = tt
exists_is _ = tt

choice_is : (ty : HolType) → IsQuantifier (choice_prefix ty)
choice_is (function_type (function_type a bool_type) b) = pick_prefix (type_eq b a) (BinderPrefix Choice) NoPrefix tt tt
choice_is _ = tt

prefix_is : (name : List ℕ) (ty : HolType) → IsQuantifier (prefix_of name ty)
prefix_is name ty =
    pick_prefix (bytes_eq name (codes "~")) (negation_prefix ty) _ (negation_is ty)
    (pick_prefix (bytes_eq name (codes "!")) (quantifier_prefix ty ForAll) _ (for_all_is ty)
    (pick_prefix (bytes_eq name (codes "?")) (quantifier_prefix ty Exists) _ (exists_is ty)
    (pick_prefix (bytes_eq name (codes "@")) (choice_prefix ty) NoPrefix (choice_is ty) tt)))

pick_tree : (b : Bool) (x y : TermTree) → IsNoLambda x → IsNoLambda y → IsNoLambda (if b then x else y)
pick_tree true x y h k = h
pick_tree false x y h k = k

no_lambda_variable : (o : Option HolType) (name : List ℕ) (ty : HolType) → IsNoLambda (variable_tree o name ty)
no_lambda_variable None name ty = tt
no_lambda_variable (Some bound) name ty = pick_tree (type_eq bound ty) (Leaf (Bare name)) (Leaf (Variable name (type_tree ty))) tt tt

no_lambda_bare : (generic bound : Option HolType) (name : List ℕ) (ty : HolType) → IsNoLambda (bare_tree generic bound name ty)
no_lambda_bare (Some generic) None name ty = pick_tree (is_closed_type generic) (Leaf (Bare name)) (typed_constant name ty) tt tt
no_lambda_bare _ _ name ty = tt

no_lambda_constant : (scope : Scope) (bindings : Bindings) (name : List ℕ) (ty : HolType) → IsNoLambda (constant_tree scope bindings name ty)
no_lambda_constant scope bindings name ty =
    pick_tree (is_identifier name) (bare_tree (scope.generic_type name) (bound_type bindings name) name ty) (typed_constant name ty)
    (no_lambda_bare (scope.generic_type name) (bound_type bindings name) name ty) tt

no_lambda_bind : (binder : Binder) (name : List ℕ) (ty : _) (body : TermTree) → IsQuantifier (BinderPrefix binder) → IsNoLambda (Bind binder name ty body)
no_lambda_bind Lambda name ty body h = h
no_lambda_bind _ name ty body h = tt

no_lambda_binder : (binder : Binder) (f a : TermTree) → IsQuantifier (BinderPrefix binder) → IsNoLambda (binder_tree binder f a)
no_lambda_binder binder f (Bind Lambda name ty body) h = no_lambda_bind binder name ty body h
no_lambda_binder binder f _ h = tt

no_lambda_prefix : (p : Prefix) (f a : TermTree) → IsQuantifier p → IsNoLambda (prefix_tree p f a)
no_lambda_prefix NotPrefix f a h = tt
no_lambda_prefix (BinderPrefix binder) f a h = no_lambda_binder binder f a h
no_lambda_prefix NoPrefix f a h = tt

no_lambda_infix : (o : Option Infix) (f a b : TermTree) → IsNoLambda (infix_tree o f a b)
no_lambda_infix (Some infix') f a b = tt
no_lambda_infix None f a b = tt

-- only an abstraction is printed as one
no_lambda : (scope : Scope) (bindings : Bindings) (term : NamedTerm) → IsNoAbstraction term → IsNoLambda (term_tree scope bindings term)
no_lambda scope bindings (variable name ty) h = no_lambda_variable (bound_type bindings name) name ty
no_lambda scope bindings (constant name ty) h = no_lambda_constant scope bindings name ty
no_lambda scope bindings (abstraction name ty body) h = absurd h
no_lambda scope bindings (combination (constant name ty) a) h =
    no_lambda_prefix (prefix_of name ty) (constant_tree scope bindings name ty) (term_tree scope bindings a) (prefix_is name ty)
no_lambda scope bindings (combination (combination (constant name ty) a) b) h =
    no_lambda_infix (infix_of name ty) (prefix_tree (prefix_of name ty) (constant_tree scope bindings name ty) (term_tree scope bindings a))
    (term_tree scope bindings a) (term_tree scope bindings b)
no_lambda scope bindings (combination f a) h = tt

apply_binder : (binder : Binder) (f a : TermTree) → IsNoLambda a → apply_tree f a ≡ binder_tree binder f a
apply_binder binder f (Bind Lambda name ty body) h = absurd h
apply_binder binder f _ h = refl

-- a quantifier before another term than an abstraction is applied
pub applied_to_other : (term : NamedTerm) → ((name : List ℕ) (ty : HolType) (body : NamedTerm) → ¬ (abstraction name ty body ≡ term))
    → (scope : Scope) (bindings : Bindings) (binder : Binder) (f : TermTree)
    → apply_tree f (term_tree scope bindings term) ≡ binder_tree binder f (term_tree scope bindings term)
applied_to_other (abstraction name ty body) h scope bindings binder f = absurd (h name ty body refl)
applied_to_other (variable name ty) h scope bindings binder f = apply_binder binder f _ (no_lambda scope bindings (variable name ty) tt)
applied_to_other (constant name ty) h scope bindings binder f = apply_binder binder f _ (no_lambda scope bindings (constant name ty) tt)
applied_to_other (combination g a) h scope bindings binder f = apply_binder binder f _ (no_lambda scope bindings (combination g a) tt)

-- parts of another term than an abstraction
pub other_parts : (parts : Parts) (term : NamedTerm) → term_of_parts parts ≡ term
    → ((x : Bor (List ℕ)) (t : Bor Ty) (body : Bor Term) → parts ≡ AbstractionParts x t body → ⊥)
    → (name : List ℕ) (ty : HolType) (body : NamedTerm) → ¬ (abstraction name ty body ≡ term)
other_parts (VariableParts x t) term e h name ty body k = let bad : variable x.now t.now ≡ abstraction name ty body = e ∙ sym k in cc
other_parts (ConstantParts x t) term e h name ty body k = let bad : constant x.now t.now ≡ abstraction name ty body = e ∙ sym k in cc
other_parts (CombinationParts f a) term e h name ty body k = let bad : combination f.now a.now ≡ abstraction name ty body = e ∙ sym k in cc
other_parts (AbstractionParts x t b) term e h name ty body k = absurd (h x t b refl)

pub applied_variable : (function argument : NamedTerm) (name : List ℕ) (ty : HolType) → variable name ty ≡ function → (scope : Scope) (bindings : Bindings)
    → apply_tree (term_tree scope bindings function) (term_tree scope bindings argument) ≡ term_tree scope bindings (combination function argument)
applied_variable (variable x t) argument name ty e scope bindings = refl
applied_variable (constant x t) argument name ty e scope bindings = absurd (cc)
applied_variable (combination f a) argument name ty e scope bindings = absurd (cc)
applied_variable (abstraction x t body) argument name ty e scope bindings = absurd (cc)

pub applied_abstraction : (function argument : NamedTerm) (name : List ℕ) (ty : HolType) (body : NamedTerm) → abstraction name ty body ≡ function
    → (scope : Scope) (bindings : Bindings)
    → apply_tree (term_tree scope bindings function) (term_tree scope bindings argument) ≡ term_tree scope bindings (combination function argument)
applied_abstraction (variable x t) argument name ty body e scope bindings = absurd (cc)
applied_abstraction (constant x t) argument name ty body e scope bindings = absurd (cc)
applied_abstraction (combination f a) argument name ty body e scope bindings = absurd (cc)
applied_abstraction (abstraction x t b) argument name ty body e scope bindings = refl

pub applied_constant : (function argument : NamedTerm) (name : List ℕ) (ty : HolType) → constant name ty ≡ function → (scope : Scope) (bindings : Bindings)
    → prefix_tree (prefix_of name ty) (term_tree scope bindings function) (term_tree scope bindings argument) ≡ term_tree scope bindings (combination function argument)
applied_constant function argument name ty e scope bindings =
    subst (λ f. prefix_tree (prefix_of name ty) (term_tree scope bindings f) (term_tree scope bindings argument) ≡ term_tree scope bindings (combination f argument)) e refl

-- a constant with two operands
pub applied_infix : (operator left argument : NamedTerm) (name : List ℕ) (ty : HolType) (infix' : Infix)
    → Some (name, ty) ≡ dest_constant operator → Some infix' ≡ infix_of name ty → (scope : Scope) (bindings : Bindings)
    → Join infix' (enclose (infix_level infix' + 1) (term_tree scope bindings left)) (enclose (infix_level infix') (term_tree scope bindings argument))
    ≡ term_tree scope bindings (combination (combination operator left) argument)
applied_infix (constant x t) left argument name ty infix' e k scope bindings =
    let same : ◌≡◌ {A = List ℕ × HolType} (name, ty) (x, t) = ap (λ (o : Option (List ℕ × HolType)). unwrap_or o (name, ty)) e in
    let names : name ≡ x = ap (λ (p : List ℕ × HolType). p.0) same in
    let types : ty ≡ t = ap (λ (p : List ℕ × HolType). p.1) same in
    ap (λ o. infix_tree o (prefix_tree (prefix_of x t) (constant_tree scope bindings x t) (term_tree scope bindings left)) (term_tree scope bindings left) (term_tree scope bindings argument))
    (k ∙ ap (λ n. infix_of n ty) names ∙ ap (infix_of x) types)
applied_infix (variable x t) left argument name ty infix' e k scope bindings =
    absurd (let bad : ◌≡◌ {A = Option (List ℕ × HolType)} (Some (name, ty)) None = e in cc)
applied_infix (combination f a) left argument name ty infix' e k scope bindings =
    absurd (let bad : ◌≡◌ {A = Option (List ℕ × HolType)} (Some (name, ty)) None = e in cc)
applied_infix (abstraction x t body) left argument name ty infix' e k scope bindings =
    absurd (let bad : ◌≡◌ {A = Option (List ℕ × HolType)} (Some (name, ty)) None = e in cc)

pub applied_no_infix : (operator left argument : NamedTerm) (name : List ℕ) (ty : HolType)
    → Some (name, ty) ≡ dest_constant operator → None ≡ infix_of name ty → (scope : Scope) (bindings : Bindings)
    → apply_tree (term_tree scope bindings (combination operator left)) (term_tree scope bindings argument)
    ≡ term_tree scope bindings (combination (combination operator left) argument)
applied_no_infix (constant x t) left argument name ty e k scope bindings =
    let same : ◌≡◌ {A = List ℕ × HolType} (name, ty) (x, t) = ap (λ (o : Option (List ℕ × HolType)). unwrap_or o (name, ty)) e in
    let names : name ≡ x = ap (λ (p : List ℕ × HolType). p.0) same in
    let types : ty ≡ t = ap (λ (p : List ℕ × HolType). p.1) same in
    ap (λ o. infix_tree o (prefix_tree (prefix_of x t) (constant_tree scope bindings x t) (term_tree scope bindings left)) (term_tree scope bindings left) (term_tree scope bindings argument))
    (k ∙ ap (λ n. infix_of n ty) names ∙ ap (infix_of x) types)
applied_no_infix (variable x t) left argument name ty e k scope bindings =
    absurd (let bad : ◌≡◌ {A = Option (List ℕ × HolType)} (Some (name, ty)) None = e in cc)
applied_no_infix (combination f a) left argument name ty e k scope bindings =
    absurd (let bad : ◌≡◌ {A = Option (List ℕ × HolType)} (Some (name, ty)) None = e in cc)
applied_no_infix (abstraction x t body) left argument name ty e k scope bindings =
    absurd (let bad : ◌≡◌ {A = Option (List ℕ × HolType)} (Some (name, ty)) None = e in cc)

pub applied_other : (operator left argument : NamedTerm) → None ≡ dest_constant operator → (scope : Scope) (bindings : Bindings)
    → apply_tree (term_tree scope bindings (combination operator left)) (term_tree scope bindings argument)
    ≡ term_tree scope bindings (combination (combination operator left) argument)
applied_other (constant x t) left argument e scope bindings =
    absurd (let bad : ◌≡◌ {A = Option (List ℕ × HolType)} None (Some (x, t)) = e in cc)
applied_other (variable x t) left argument e scope bindings = refl
applied_other (combination f a) left argument e scope bindings = refl
applied_other (abstraction x t body) left argument e scope bindings = refl
