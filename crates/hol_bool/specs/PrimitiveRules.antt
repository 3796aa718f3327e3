-- The primitive rules and the axioms, as the kernel answers them, by the table of rules.
use Rattle.std.specs.Prelude.{◌≡◌, List, [], ◌∷◌, Some, Result, Ok}
use Rattle.std.specs.declared.alloc.Global.{Global}
use Rattle.std.specs.declared.vec.Vec.{Vec}
use Rattle.hol_model.specs.declared.fault.Fault.{Fault}
use Rattle.hol_model.specs.Terms.HolType.{HolType}
use Rattle.hol_model.specs.Terms.NamedTerm.{NamedTerm, type_of}
use Rattle.hol_model.specs.Logic.Theory.{Theory, IsLegal}
use Rattle.hol_model.specs.Kernel.Theorem.{Theorem}
use Rattle.hol_model.specs.Kernel.Outcome.{Answers, AnswersSuch}
use Rattle.hol_model.specs.Kernel.Rules.{refl_outcome, assume_outcome, beta_outcome, trans_outcome, eq_mp_outcome, mk_comb_outcome, abs_outcome, deduct_antisym_outcome}
use Rattle.hol_model.specs.Derived.InferenceRules.{InferenceRule}
use Rattle.hol_model.specs.declared.rule.Rule.TheVariants as rules
use Rattle.hol_model.specs.Kernel.Instantiation.{inst_refusal, IsInst, inst_type_refusal, IsInstType}
use Rattle.hol_equal.specs.Formulas.{IsFormula}
use Rattle.hol_model.specs.Kernel.NamedAxioms.{eta_theorem, select_theorem}
use Rattle.hol_equal.specs.Inferred.{Infers}

-- a call that answers the rule's outcome answers what is drawn
abbrev pub OutcomeInfers : Theory → InferenceRule → List Theorem → Result Theorem Fault → Type 0
OutcomeInfers theory rule premises outcome = (result : Result Theorem Fault) → Answers result outcome → Infers theory rule premises result

-- each rule, over terms that have a type and premises that the theory knows
pub record OutcomesInfer (theory : Theory) : Type 0 where
  pub refl : (t : NamedTerm) (ty : HolType) → type_of t ≡ Some ty → OutcomeInfers theory (rules.Refl t) [] (refl_outcome theory t)
  pub assume : (p : NamedTerm) (ty : HolType) → type_of p ≡ Some ty → OutcomeInfers theory (rules.Assume p) [] (assume_outcome theory p)
  pub beta : (t : NamedTerm) (ty : HolType) → type_of t ≡ Some ty → OutcomeInfers theory (rules.Beta t) [] (beta_outcome theory t)
  pub trans : (a b : Theorem) → IsFormula theory a.conclusion → IsFormula theory b.conclusion → OutcomeInfers theory rules.Trans (a ∷ b ∷ []) (trans_outcome theory a b)
  pub eq_mp : (a b : Theorem) → IsFormula theory a.conclusion → IsFormula theory b.conclusion → OutcomeInfers theory rules.EqMp (a ∷ b ∷ []) (eq_mp_outcome theory a b)
  pub mk_comb : (a b : Theorem) → IsFormula theory a.conclusion → IsFormula theory b.conclusion → OutcomeInfers theory rules.MkComb (a ∷ b ∷ []) (mk_comb_outcome theory a b)
  pub abs : (x : NamedTerm) (a : Theorem) → IsFormula theory a.conclusion → OutcomeInfers theory (rules.Abs x) (a ∷ []) (abs_outcome theory x a)
  pub deduct_antisym : (a b : Theorem) → IsFormula theory a.conclusion → OutcomeInfers theory rules.DeductAntisym (a ∷ b ∷ []) (deduct_antisym_outcome theory a b)
  pub inst : (theta : Vec (NamedTerm × NamedTerm) Global) (a : Theorem) (result : Result Theorem Fault)
      → AnswersSuch result (inst_refusal theory theta.items a) (IsInst theory theta.items a) → Infers theory (rules.Inst theta) (a ∷ []) result
  pub inst_type : (theta : Vec (HolType × HolType) Global) (a : Theorem) (result : Result Theorem Fault)
      → AnswersSuch result (inst_type_refusal theory theta.items a) (IsInstType theory theta.items a) → Infers theory (rules.InstType theta) (a ∷ []) result
  pub eta : OutcomeInfers theory rules.EtaAxiom [] (Ok (eta_theorem theory))
  pub select : OutcomeInfers theory rules.SelectAxiom [] (Ok (select_theorem theory))

abbrev pub PrimitiveRulesInfer : Type 0
PrimitiveRulesInfer = (theory : Theory) → IsLegal theory → OutcomesInfer theory
