-- Formulas of the logical constants as terms with names, and their parts (HOL Light's `bool.ml`).
use Rattle.std.specs.Prelude.{ℕ, List, Bool, false, Option, Some, None, if◌then◌else◌}
use Rattle.std.specs.Str.{bytes_eq}
use Rattle.hol_model.specs.Terms.HolType.{HolType, bool_type}
use Rattle.hol_model.specs.Terms.NamedTerm.{NamedTerm, constant, combination, abstraction}
use Rattle.hol_model.specs.Logic.Logic.{true_name, and_name, implies_name, forall_name, exists_name, or_name, false_name, not_name, unary, binary, quantifier}

-- formulas

abbrev pub true_term : NamedTerm
true_term = constant true_name bool_type

abbrev pub false_term : NamedTerm
false_term = constant false_name bool_type

-- a binary connective of two formulas
abbrev pub connected : List ℕ → NamedTerm → NamedTerm → NamedTerm
connected name p q = combination (combination (constant name binary) p) q

abbrev pub conjunction : NamedTerm → NamedTerm → NamedTerm
conjunction p q = connected and_name p q

abbrev pub implication : NamedTerm → NamedTerm → NamedTerm
implication p q = connected implies_name p q

abbrev pub disjunction : NamedTerm → NamedTerm → NamedTerm
disjunction p q = connected or_name p q

abbrev pub negation : NamedTerm → NamedTerm
negation p = combination (constant not_name unary) p

-- a quantifier over a variable
abbrev pub quantified : List ℕ → List ℕ → HolType → NamedTerm → NamedTerm
quantified quantifier_name name ty body = combination (constant quantifier_name (quantifier ty)) (abstraction name ty body)

abbrev pub forall_term : List ℕ → HolType → NamedTerm → NamedTerm
forall_term name ty body = quantified forall_name name ty body

-- parts of formulas

-- the term is a constant of this name
abbrev pub is_constant_named : List ℕ → NamedTerm → Bool
is_constant_named name (constant other ty) = bytes_eq other name
is_constant_named name _ = false

abbrev pub is_true : NamedTerm → Bool
is_true term = is_constant_named true_name term

abbrev pub is_false : NamedTerm → Bool
is_false term = is_constant_named false_name term

-- the sides of a binary connective
abbrev pub dest_connected : List ℕ → NamedTerm → Option (NamedTerm × NamedTerm)
dest_connected name (combination (combination (constant other ty) left) right) = if bytes_eq other name then Some (left, right) else None
dest_connected name _ = None

abbrev pub dest_conjunction : NamedTerm → Option (NamedTerm × NamedTerm)
dest_conjunction term = dest_connected and_name term

abbrev pub dest_implication : NamedTerm → Option (NamedTerm × NamedTerm)
dest_implication term = dest_connected implies_name term

abbrev pub dest_disjunction : NamedTerm → Option (NamedTerm × NamedTerm)
dest_disjunction term = dest_connected or_name term

abbrev pub dest_negation : NamedTerm → Option NamedTerm
dest_negation (combination (constant other ty) term) = if bytes_eq other not_name then Some term else None
dest_negation _ = None

-- an abstraction: the variable's name and type, and the body
pub record Abstracted : Type 0 where
  pub name : List ℕ
  pub ty : HolType
  pub body : NamedTerm

-- the abstraction under a quantifier; a quantifier without one has no such parts
abbrev pub dest_quantified : List ℕ → NamedTerm → Option Abstracted
dest_quantified quantifier_name (combination (constant other s) (abstraction name ty body)) =
    if bytes_eq other quantifier_name then Some (record { name = name; ty = ty; body = body }) else None
dest_quantified quantifier_name _ = None

abbrev pub dest_forall : NamedTerm → Option Abstracted
dest_forall term = dest_quantified forall_name term

abbrev pub dest_exists : NamedTerm → Option Abstracted
dest_exists term = dest_quantified exists_name term

-- an abstraction that is applied, and its argument
abbrev pub dest_redex : NamedTerm → Option (Abstracted × NamedTerm)
dest_redex (combination (abstraction name ty body) argument) = Some (record { name = name; ty = ty; body = body }, argument)
dest_redex _ = None
