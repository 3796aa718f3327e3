-- The axioms as theorems of the prelude.
use Rattle.std.specs.Prelude.{◌≡◌, ℕ, [], true, Some, codes, slice_get}
use Rattle.hol_model.specs.Terms.HolType.{bool_type, function_type}
use Rattle.hol_model.specs.Terms.NamedTerm.{NamedTerm}
use Rattle.hol_model.specs.Terms.Nameless.{image}
use Rattle.hol_model.specs.Terms.Measures.{nameless_within_limits}
use Rattle.hol_model.specs.Logic.Theory.{type_a, type_b}
use Rattle.hol_model.specs.Logic.Logic.{predicate}
use Rattle.hol_model.specs.Logic.Derivable.{nameless_equation}
use Rattle.hol_model.specs.Kernel.NamedAxioms.{eta_conclusion, select_hypothesis, select_conclusion}
use Rattle.hol_model.specs.Logic.NamedLogic.{implication, forall_term}
use Rattle.hol_prelude.specs.Prelude.{prelude_theorems, shown}

-- ETA_AX: !t. (\x. t x) = t
abbrev pub eta_axiom : NamedTerm
eta_axiom = forall_term (codes "t") (function_type type_a type_b) eta_conclusion

-- SELECT_AX: !P x. P x ==> P (@ P)
abbrev pub select_axiom : NamedTerm
select_axiom = forall_term (codes "P") (predicate type_a) (forall_term (codes "x") type_a (implication select_hypothesis select_conclusion))

-- the theorem of this number of the prelude has no hypotheses, and the equation of its conclusion and itself is within
-- the limits
pub record IsAxiom (number : ℕ) (conclusion : NamedTerm) : Type 0 where
  pub theorem_is : slice_get prelude_theorems number ≡ Some (shown [] conclusion)
  pub fits : nameless_within_limits (nameless_equation bool_type (image conclusion) (image conclusion)) ≡ true
