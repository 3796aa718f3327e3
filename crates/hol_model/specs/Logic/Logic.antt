-- The definitions of the logical constants, as in HOL Light's `bool.ml`.
use Rattle.std.specs.Prelude.{ℕ, List, [], ◌∷◌, codes}
use Rattle.hol_model.specs.Terms.HolType.{HolType, bool_type, function_type}
use Rattle.hol_model.specs.Terms.Nameless.{Nameless, const, bound, app, lam}
use Rattle.hol_model.specs.Logic.Theory.{Theory, definition, type_a}
use Rattle.hol_model.specs.Logic.Derivable.{nameless_equation}

-- the names T, /\, ==>, !, ?, \/, F and ~

abbrev pub true_name : List ℕ
true_name = codes "T"

abbrev pub and_name : List ℕ
and_name = codes "/\\"

abbrev pub implies_name : List ℕ
implies_name = codes "==>"

abbrev pub forall_name : List ℕ
forall_name = codes "!"

abbrev pub exists_name : List ℕ
exists_name = codes "?"

abbrev pub or_name : List ℕ
or_name = codes "\\/"

abbrev pub false_name : List ℕ
false_name = codes "F"

abbrev pub not_name : List ℕ
not_name = codes "~"

-- types of connectives and quantifiers

abbrev pub unary : HolType
unary = function_type bool_type bool_type

abbrev pub binary : HolType
binary = function_type bool_type unary

abbrev pub predicate : HolType → HolType
predicate ty = function_type ty bool_type

abbrev pub quantifier : HolType → HolType
quantifier ty = function_type (predicate ty) bool_type

-- terms of connectives and quantifiers

abbrev pub true_term : Nameless
true_term = const true_name bool_type

abbrev pub conjunction : Nameless → Nameless → Nameless
conjunction p q = app (app (const and_name binary) p) q

abbrev pub implication : Nameless → Nameless → Nameless
implication p q = app (app (const implies_name binary) p) q

abbrev pub forall_term : HolType → Nameless → Nameless
forall_term ty body = app (const forall_name (quantifier ty)) (lam ty body)

abbrev pub false_term : Nameless
false_term = const false_name bool_type

-- T = ((\p. p) = (\p. p))
abbrev pub true_body : Nameless
true_body = nameless_equation unary (lam bool_type (bound 0)) (lam bool_type (bound 0))

-- /\ = \p q. (\f. f p q) = (\f. f T T)
abbrev pub and_body : Nameless
and_body =
    lam bool_type (lam bool_type (nameless_equation (function_type binary bool_type)
    (lam binary (app (app (bound 0) (bound 2)) (bound 1)))
    (lam binary (app (app (bound 0) true_term) true_term))))

-- ==> = \p q. p /\ q <=> p
abbrev pub implies_body : Nameless
implies_body = lam bool_type (lam bool_type (nameless_equation bool_type (conjunction (bound 1) (bound 0)) (bound 1)))

-- ! = \P. P = (\x. T)
abbrev pub forall_body : Nameless
forall_body = lam (predicate type_a) (nameless_equation (predicate type_a) (bound 0) (lam type_a true_term))

-- ? = \P. !q. (!x. P x ==> q) ==> q
abbrev pub exists_body : Nameless
exists_body =
    lam (predicate type_a) (forall_term bool_type
    (implication (forall_term type_a (implication (app (bound 2) (bound 0)) (bound 1))) (bound 0)))

-- \/ = \p q. !r. (p ==> r) ==> (q ==> r) ==> r
abbrev pub or_body : Nameless
or_body =
    lam bool_type (lam bool_type (forall_term bool_type
    (implication (implication (bound 2) (bound 0)) (implication (implication (bound 1) (bound 0)) (bound 0)))))

-- F = !p. p
abbrev pub false_body : Nameless
false_body = forall_term bool_type (bound 0)

-- ~ = \p. p ==> F
abbrev pub not_body : Nameless
not_body = lam bool_type (implication (bound 0) false_term)

-- the definitions, the newest first
abbrev pub logical_definitions : Theory
logical_definitions =
    definition not_name unary not_body
    ∷ definition false_name bool_type false_body
    ∷ definition or_name binary or_body
    ∷ definition exists_name (quantifier type_a) exists_body
    ∷ definition forall_name (quantifier type_a) forall_body
    ∷ definition implies_name binary implies_body
    ∷ definition and_name binary and_body
    ∷ definition true_name bool_type true_body
    ∷ []
