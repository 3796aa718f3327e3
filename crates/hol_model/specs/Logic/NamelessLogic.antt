-- Formulas without bound names, and their parts: `None` where the formula is of another form, or its constant of another
-- type.
use Rattle.std.specs.Prelude.{ℕ, List, Option, Some, None, if◌then◌else◌}
use Rattle.hol_model.specs.Terms.HolType.{HolType, bool_type, domain_of}
use Rattle.hol_model.specs.Terms.NamedTerm.{same_variable}
use Rattle.hol_model.specs.Terms.Nameless.{Nameless, const, app, lam}
use Rattle.hol_model.specs.Logic.Theory.{equality_name, equality_type}
use Rattle.hol_model.specs.Logic.Logic.{and_name, or_name, implies_name, not_name, forall_name, exists_name, unary, binary, quantifier}

-- formulas

abbrev pub disjunction : Nameless → Nameless → Nameless
disjunction p q = app (app (const or_name binary) p) q

abbrev pub negation : Nameless → Nameless
negation p = app (const not_name unary) p

-- parts of formulas

-- the sides of an equation, and their type
pub record Equation : Type 0 where
  pub ty : HolType
  pub left : Nameless
  pub right : Nameless

abbrev pub dest_equation : Nameless → Option Equation
dest_equation (app (app (const name ty) left) right) =
    if same_variable equality_name (equality_type (domain_of ty)) name ty then Some (record { ty = domain_of ty; left = left; right = right }) else None
dest_equation _ = None

-- the arguments of a connective
abbrev pub dest_binary : List ℕ → HolType → Nameless → Option (Nameless × Nameless)
dest_binary name ty (app (app (const other s) left) right) = if same_variable name ty other s then Some (left, right) else None
dest_binary name ty _ = None

abbrev pub dest_unary : List ℕ → HolType → Nameless → Option Nameless
dest_unary name ty (app (const other s) argument) = if same_variable name ty other s then Some argument else None
dest_unary name ty _ = None

-- the type of the binder and the body under a quantifier
abbrev pub dest_quantified : List ℕ → Nameless → Option (HolType × Nameless)
dest_quantified name (app (const other s) (lam ty body)) = if same_variable name (quantifier ty) other s then Some (ty, body) else None
dest_quantified name _ = None

-- p <=> q
abbrev pub dest_equivalence : Nameless → Option (Nameless × Nameless)
dest_equivalence term = dest_binary equality_name (equality_type bool_type) term

abbrev pub dest_conjunction : Nameless → Option (Nameless × Nameless)
dest_conjunction term = dest_binary and_name binary term

abbrev pub dest_disjunction : Nameless → Option (Nameless × Nameless)
dest_disjunction term = dest_binary or_name binary term

abbrev pub dest_implication : Nameless → Option (Nameless × Nameless)
dest_implication term = dest_binary implies_name binary term

abbrev pub dest_negation : Nameless → Option Nameless
dest_negation term = dest_unary not_name unary term

abbrev pub dest_forall : Nameless → Option (HolType × Nameless)
dest_forall term = dest_quantified forall_name term

abbrev pub dest_exists : Nameless → Option (HolType × Nameless)
dest_exists term = dest_quantified exists_name term

-- an abstraction and its argument
pub record Redex : Type 0 where
  pub ty : HolType
  pub body : Nameless
  pub argument : Nameless

abbrev pub dest_redex : Nameless → Option Redex
dest_redex (app (lam ty body) argument) = Some (record { ty = ty; body = body; argument = argument })
dest_redex _ = None
