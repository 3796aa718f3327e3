-- A term with one variable renamed: its type and its size are as before.
use Rattle.std.proofs.Common.{◌≡◌, ℕ, ◌+◌, max, List, Bool, true, false, ◌&&◌, ◌||◌, not, refl, sym, ◌∙◌, ap, Some, if◌then◌else◌}
use Rattle.std.specs.Prelude.{nat_le, is_some}
use Rattle.std.specs.Option.{option_map}
use Rattle.hol_model.specs.declared.limits.TheConstants.{TERM_NODES_LIMIT, TERM_HEIGHT_LIMIT}
use Rattle.hol_model.specs.Terms.HolType.{HolType, function_type}
use Rattle.hol_model.specs.Terms.NamedTerm.{NamedTerm, variable, constant, combination, abstraction, same_variable, is_free, height, nodes}
use Rattle.hol_model.specs.Terms.NamedTerm.{dest_variable, type_of, application_type, types_fit, some_type_fits, is_within_limits}
use Rattle.hol_model.specs.Terms.Substitution.{with_new_name}
use Rattle.hol_rewrite.specs.Rules.{IsRenamed}
use Rattle.hol_model.proofs.Tests.{same_name}
use Rattle.hol_terms.specs.Classes.{class_of_name, classes_of_names, have_common_class}
use Rattle.hol_terms.proofs.FreeNames.{not_free}

-- a variable that keeps its name
kept-name : (name : List ℕ) (ty : HolType) (other : List ℕ) (s : HolType) → (if same_variable name ty other s then name else other) ≡ other
kept-name name ty other s = go (same_variable name ty other s) refl
  where
    go : (test : Bool) → same_variable name ty other s ≡ test → (if test then name else other) ≡ other
    go true is = same_name name other ty s is
    go false is = refl

kept-body : (test : Bool) (body new : NamedTerm) → (test ≡ false → new ≡ body) → (if test then body else new) ≡ body
kept-body true body new same = refl
kept-body false body new same = same refl

-- a variable renamed to its own name
pub same-name : (name : List ℕ) (ty : HolType) (term : NamedTerm) → with_new_name name ty name term ≡ term
same-name name ty (variable other s) = ap (λ n. variable n s) (kept-name name ty other s)
same-name name ty (constant other s) = refl
same-name name ty (combination f x) = λ i. combination (same-name name ty f i) (same-name name ty x i)
same-name name ty (abstraction other s body) =
    ap (abstraction other s) (kept-body (same_variable name ty other s) body (with_new_name name ty name body) (λ is. same-name name ty body))

first_fails : (p q : Bool) → (p || q) ≡ false → p ≡ false
first_fails true q none = cc
first_fails false q none = refl

second_fails : (p q : Bool) → (p || q) ≡ false → q ≡ false
second_fails true q none = cc
second_fails false q none = none

-- a variable that is not free
pub not_free-same : (name : List ℕ) (ty : HolType) (fresh : List ℕ) (term : NamedTerm) → is_free name ty term ≡ false → with_new_name name ty fresh term ≡ term
not_free-same name ty fresh (variable other s) none = ap (λ (t : Bool). variable (if t then fresh else other) s) none
not_free-same name ty fresh (constant other s) none = refl
not_free-same name ty fresh (combination f x) none =
    λ i. combination (not_free-same name ty fresh f (first_fails (is_free name ty f) (is_free name ty x) none) i)
    (not_free-same name ty fresh x (second_fails (is_free name ty f) (is_free name ty x) none) i)
not_free-same name ty fresh (abstraction other s body) none =
    ap (abstraction other s) (kept-body (same_variable name ty other s) body (with_new_name name ty fresh body)
    (λ is. not_free-same name ty fresh body (sym (ap (λ (t : Bool). not t && is_free name ty body) is) ∙ none)))

-- the same, from the test of classes
pub apart_same : (term : NamedTerm) (name fresh : List ℕ) (ty : HolType) (class : ℕ) → class ≡ class_of_name name
    → have_common_class class (classes_of_names term) ≡ false → term ≡ with_new_name name ty fresh term
apart_same term name fresh ty class is apart = sym (not_free-same name ty fresh term (not_free term name ty class is apart))

-- what a renaming leaves as it is, under a binder
either-same : {T : Type 0} (measure : NamedTerm → T) (test : Bool) (body new : NamedTerm) → measure new ≡ measure body → measure (if test then body else new) ≡ measure body
either-same measure true body new same = refl
either-same measure false body new same = same

keeps-type : (name : List ℕ) (ty : HolType) (fresh : List ℕ) (term : NamedTerm) → type_of (with_new_name name ty fresh term) ≡ type_of term
keeps-type name ty fresh (variable other s) = refl
keeps-type name ty fresh (constant other s) = refl
keeps-type name ty fresh (combination f x) = λ i. application_type (keeps-type name ty fresh f i) (keeps-type name ty fresh x i)
keeps-type name ty fresh (abstraction other s body) =
    ap (option_map (function_type s)) (either-same type_of (same_variable name ty other s) body (with_new_name name ty fresh body) (keeps-type name ty fresh body))

keeps-height : (name : List ℕ) (ty : HolType) (fresh : List ℕ) (term : NamedTerm) → height (with_new_name name ty fresh term) ≡ height term
keeps-height name ty fresh (variable other s) = refl
keeps-height name ty fresh (constant other s) = refl
keeps-height name ty fresh (combination f x) = λ i. max (keeps-height name ty fresh f i) (keeps-height name ty fresh x i) + 1
keeps-height name ty fresh (abstraction other s body) =
    ap (λ n. n + 1) (either-same height (same_variable name ty other s) body (with_new_name name ty fresh body) (keeps-height name ty fresh body))

keeps-nodes : (name : List ℕ) (ty : HolType) (fresh : List ℕ) (term : NamedTerm) → nodes (with_new_name name ty fresh term) ≡ nodes term
keeps-nodes name ty fresh (variable other s) = refl
keeps-nodes name ty fresh (constant other s) = refl
keeps-nodes name ty fresh (combination f x) = λ i. keeps-nodes name ty fresh f i + keeps-nodes name ty fresh x i + 1
keeps-nodes name ty fresh (abstraction other s body) =
    ap (λ n. n + 1) (either-same nodes (same_variable name ty other s) body (with_new_name name ty fresh body) (keeps-nodes name ty fresh body))

keeps-types_fit : (name : List ℕ) (ty : HolType) (fresh : List ℕ) (term : NamedTerm) → types_fit (with_new_name name ty fresh term) ≡ types_fit term
keeps-types_fit name ty fresh (variable other s) = refl
keeps-types_fit name ty fresh (constant other s) = refl
keeps-types_fit name ty fresh (combination f x) = λ i. keeps-types_fit name ty fresh f i && keeps-types_fit name ty fresh x i
keeps-types_fit name ty fresh (abstraction other s body) =
    either-same (λ t. types_fit t && some_type_fits (option_map (function_type s) (type_of t))) (same_variable name ty other s) body (with_new_name name ty fresh body)
    (λ i. keeps-types_fit name ty fresh body i && some_type_fits (option_map (function_type s) (keeps-type name ty fresh body i)))

keeps-limits : (name : List ℕ) (ty : HolType) (fresh : List ℕ) (term : NamedTerm) → is_within_limits (with_new_name name ty fresh term) ≡ is_within_limits term
keeps-limits name ty fresh term =
    λ i. nat_le (keeps-height name ty fresh term i) TERM_HEIGHT_LIMIT && nat_le (keeps-nodes name ty fresh term i) TERM_NODES_LIMIT && keeps-types_fit name ty fresh term i

-- a new combination has a type and is within the limits
pub combination-typed : (name fresh : List ℕ) (ty : HolType) (f x g y whole : NamedTerm) → combination f x ≡ whole → is_some (type_of whole) ≡ true
    → g ≡ with_new_name name ty fresh f → y ≡ with_new_name name ty fresh x → is_some (type_of (combination g y)) ≡ true
combination-typed name fresh ty f x g y whole is typed first second =
    (λ i. is_some (type_of (combination (first i) (second i)))) ∙ ap is_some (keeps-type name ty fresh (combination f x)) ∙ ap (λ t. is_some (type_of t)) is ∙ typed

pub combination-fits : (name fresh : List ℕ) (ty : HolType) (f x g y whole : NamedTerm) → combination f x ≡ whole → is_within_limits whole ≡ true
    → g ≡ with_new_name name ty fresh f → y ≡ with_new_name name ty fresh x → is_within_limits (combination g y) ≡ true
combination-fits name fresh ty f x g y whole is fits first second =
    (λ i. is_within_limits (combination (first i) (second i))) ∙ keeps-limits name ty fresh (combination f x) ∙ ap is_within_limits is ∙ fits

under : (name fresh : List ℕ) (ty : HolType) (other : List ℕ) (s : HolType) (body new : NamedTerm) → same_variable name ty other s ≡ false
    → new ≡ with_new_name name ty fresh body → abstraction other s new ≡ with_new_name name ty fresh (abstraction other s body)
under name fresh ty other s body new differs is =
    ap (abstraction other s) is ∙ sym (ap (λ (t : Bool). abstraction other s (if t then body else with_new_name name ty fresh body)) differs)

-- a new abstraction is within the limits
pub abstraction-fits : (name fresh : List ℕ) (ty : HolType) (other : List ℕ) (s : HolType) (body new whole : NamedTerm) → abstraction other s body ≡ whole
    → is_within_limits whole ≡ true → same_variable name ty other s ≡ false → new ≡ with_new_name name ty fresh body → is_within_limits (abstraction other s new) ≡ true
abstraction-fits name fresh ty other s body new whole is fits differs made =
    ap is_within_limits (under name fresh ty other s body new differs made) ∙ keeps-limits name ty fresh (abstraction other s body) ∙ ap is_within_limits is ∙ fits

-- the parts of the two variables
pub renamed_between : (old new term made : NamedTerm) (name fresh : List ℕ) (ty s : HolType) → Some (name, ty) ≡ dest_variable old → Some (fresh, s) ≡ dest_variable new
    → made ≡ with_new_name name ty fresh term → IsRenamed old new term made
renamed_between (variable n t) (variable m u) term made name fresh ty s old_is new_is is =
    let first : ◌≡◌ {A = List ℕ × HolType} (name, ty) (n, t) = cc in
    let second : ◌≡◌ {A = List ℕ × HolType} (fresh, s) (m, u) = cc in
    is ∙ (λ i. with_new_name (first i).0 (first i).1 (second i).0 term)
renamed_between (variable n t) (constant m u) term made name fresh ty s old_is new_is is = cc
renamed_between (variable n t) (combination f x) term made name fresh ty s old_is new_is is = cc
renamed_between (variable n t) (abstraction m u b) term made name fresh ty s old_is new_is is = cc
renamed_between (constant n t) new term made name fresh ty s old_is new_is is = cc
renamed_between (combination f x) new term made name fresh ty s old_is new_is is = cc
renamed_between (abstraction n t b) new term made name fresh ty s old_is new_is is = cc

pub ruleset between_variables = (renamed_between)

pub ruleset renaming = (apart_same, combination-typed, combination-fits, abstraction-fits)
