-- What follows by the ten primitive rules of HOL Light's `fusion.ml` from the axioms and a theory's definitions.
use Rattle.std.specs.Prelude.{◌≡◌, ◌⊎◌, ℕ, List, [], ◌∷◌, ◌++◌, false, not, map, filter, codes}
use Rattle.hol_model.specs.Terms.HolType.{HolType, bool_type, function_type, TypeInstance}
use Rattle.hol_model.specs.Terms.Nameless.{Nameless, free, const, bound, app, lam, same_term}
use Rattle.hol_model.specs.Terms.Substitution.{close, put, instantiate, occurs_free, TermInstance}
use Rattle.hol_model.specs.Logic.Theory.{Theory, definition, equality_name, equality_type, choice_name, choice_type, type_a, type_b, IsKnown, IsKnownType}

-- the element is in the list
abbrev pub IsMember : {A : Type 0} → A → List A → Type 0
IsMember x [] = ⊥
IsMember x (y ∷ ys) = (x ≡ y) ⊎ IsMember x ys

-- the two lists are one set
pub record IsSameSet {A : Type 0} (xs ys : List A) : Type 0 where
  pub to : (x : A) → IsMember x xs → IsMember x ys
  pub back : (x : A) → IsMember x ys → IsMember x xs

-- the equation between two terms of a type
abbrev pub nameless_equation : HolType → Nameless → Nameless → Nameless
nameless_equation ty s t = app (app (const equality_name (equality_type ty)) s) t

-- the list without a term
abbrev pub without : Nameless → List Nameless → List Nameless
without term terms = filter (λ other. not (same_term other term)) terms

-- the variable is free in none of the terms
abbrev pub NotFreeInAny : List ℕ → HolType → List Nameless → Type 0
NotFreeInAny name ty terms = (term : Nameless) → IsMember term terms → occurs_free name ty term ≡ false

-- what may stand for a variable: a known term of its type, or the variable itself
abbrev pub MayReplace : Theory → TermInstance → Type 0
MayReplace theory theta = (name : List ℕ) (ty : HolType) → IsKnown theory (theta name ty) ty ⊎ (theta name ty ≡ free name ty)

-- the terms are known and of type `bool`
abbrev pub AreKnown : Theory → List Nameless → Type 0
AreKnown theory terms = (term : Nameless) → IsMember term terms → IsKnown theory term bool_type

-- the variables of the two axioms
abbrev pub eta_variable : Nameless
eta_variable = free (codes "t") (function_type type_a type_b)

abbrev pub select_predicate : Nameless
select_predicate = free (codes "P") (function_type type_a bool_type)

abbrev pub select_variable : Nameless
select_variable = free (codes "x") type_a

-- (\x:A. t x) = t
abbrev pub eta_axiom : Nameless
eta_axiom = nameless_equation (function_type type_a type_b) (lam type_a (app eta_variable (bound 0))) eta_variable

-- P x, from which P (@ P) follows
abbrev pub select_hypothesis : Nameless
select_hypothesis = app select_predicate select_variable

abbrev pub select_conclusion : Nameless
select_conclusion = app select_predicate (app (const choice_name (choice_type type_a)) select_predicate)

-- the conclusion follows from the hypotheses, which are a set: two lists with the same members are one
pub data Derivable (theory : Theory) : List Nameless → Nameless → Type 0 where
  same_hypotheses : {h k : List Nameless} {c : Nameless} → Derivable theory h c → IsSameSet h k → Derivable theory k c
  refl_rule : (t : Nameless) (ty : HolType) → IsKnown theory t ty → Derivable theory [] (nameless_equation ty t t)
  trans_rule : {h k : List Nameless} (ty : HolType) (a b c : Nameless) → Derivable theory h (nameless_equation ty a b) → Derivable theory k (nameless_equation ty b c) →
      Derivable theory (h ++ k) (nameless_equation ty a c)
  mk_comb_rule : {h k : List Nameless} (domain codomain : HolType) (f g x y : Nameless) → Derivable theory h (nameless_equation (function_type domain codomain) f g) →
      Derivable theory k (nameless_equation domain x y) → Derivable theory (h ++ k) (nameless_equation codomain (app f x) (app g y))
  abs_rule : {h : List Nameless} (name : List ℕ) (domain codomain : HolType) (s t : Nameless) → IsKnownType theory domain → NotFreeInAny name domain h →
      Derivable theory h (nameless_equation codomain s t) → Derivable theory h (nameless_equation (function_type domain codomain) (lam domain (close name domain s)) (lam domain (close name domain t)))
  beta_rule : (name : List ℕ) (domain codomain : HolType) (t : Nameless) → IsKnownType theory domain → IsKnown theory t codomain →
      Derivable theory [] (nameless_equation codomain (app (lam domain (close name domain t)) (free name domain)) t)
  assume_rule : (p : Nameless) → IsKnown theory p bool_type → Derivable theory (p ∷ []) p
  eq_mp_rule : {h k : List Nameless} (p q : Nameless) → Derivable theory h (nameless_equation bool_type p q) → Derivable theory k p → Derivable theory (h ++ k) q
  deduct_antisym_rule : {h k : List Nameless} (p q : Nameless) → Derivable theory h p → Derivable theory k q → Derivable theory (without q h ++ without p k) (nameless_equation bool_type p q)
  inst_rule : {h : List Nameless} {c : Nameless} (theta : TermInstance) → MayReplace theory theta → Derivable theory h c → Derivable theory (map (put theta) h) (put theta c)
  inst_type_rule : {h : List Nameless} {c : Nameless} (tau : TypeInstance) → ((name : List ℕ) → IsKnownType theory (tau name)) → Derivable theory h c →
      Derivable theory (map (instantiate tau) h) (instantiate tau c)
  eta_rule : Derivable theory [] eta_axiom
  select_rule : Derivable theory (select_hypothesis ∷ []) select_conclusion
  definition_rule : (name : List ℕ) (ty : HolType) (body : Nameless) → IsMember (definition name ty body) theory → Derivable theory [] (nameless_equation ty (const name ty) body)
