-- The binary connectives as terms.
use Rattle.std.specs.Prelude.{ℕ, List, Bool, true, false, codes}
use Rattle.hol_model.specs.Terms.HolType.{bool_type}
use Rattle.hol_model.specs.Terms.NamedTerm.{NamedTerm}
use Rattle.hol_model.specs.Terms.Nameless.{Nameless}
use Rattle.hol_model.specs.Logic.Derivable.{nameless_equation}
use Rattle.hol_model.specs.Logic.Logic as nameless
use Rattle.hol_model.specs.Logic.Logic.{and_name, or_name, implies_name}
use Rattle.hol_model.specs.Logic.NamedLogic as named
use Rattle.hol_model.specs.Propositional.Propositions.{Connective}
use Rattle.hol_model.specs.Propositional.Propositions.{And, Or, Implies, Iff}

abbrev pub connective_name : Connective → List ℕ
connective_name And = and_name
connective_name Or = or_name
connective_name Implies = implies_name
connective_name Iff = codes "="

abbrev pub connected_term : Connective → NamedTerm → NamedTerm → NamedTerm
connected_term connective p q = named.connected (connective_name connective) p q

-- the equation of two formulas
abbrev pub equation_of : Nameless → Nameless → Nameless
equation_of p q = nameless_equation bool_type p q

-- what a fact says: a formula that is true, or the equation of one that is false with `F`
abbrev pub fact : Bool → Nameless → Nameless
fact true p = p
fact false p = equation_of p nameless.false_term

-- the fact of a constant, `T` or `F <=> F`
abbrev pub constant_fact : Bool → Nameless
constant_fact true = nameless.true_term
constant_fact false = fact false nameless.false_term
