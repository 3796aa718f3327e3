-- What the rules that a derivation names answer.
use Rattle.std.specs.Prelude.{Result}
use Rattle.hol_model.specs.declared.fault.Fault.{Fault}
use Rattle.hol_model.specs.Terms.NamedTerm.{NamedTerm}
use Rattle.hol_model.specs.Logic.Theory.{Theory}
use Rattle.hol_model.specs.Kernel.Theorem.{Theorem}
use Rattle.hol_model.specs.Kernel.Rules.{refl_outcome, beta_outcome, assume_outcome, trans_outcome, mk_comb_outcome, eq_mp_outcome, deduct_antisym_outcome}
use Rattle.hol_model.specs.Kernel.NamedAxioms.{eta_theorem, select_theorem}
use Rattle.hol_prelude_derivations.specs.declared.rule.TermRule.{TermRule}
use Rattle.hol_prelude_derivations.specs.declared.rule.TermRule.TheVariants.{Refl, Beta, Assume}
use Rattle.hol_prelude_derivations.specs.declared.rule.PairRule.{PairRule}
use Rattle.hol_prelude_derivations.specs.declared.rule.PairRule.TheVariants.{Trans, MkComb, EqMp, DeductAntisym}
use Rattle.hol_prelude_derivations.specs.declared.rule.Axiom.{Axiom}
use Rattle.hol_prelude_derivations.specs.declared.rule.Axiom.TheVariants.{Eta, Select}

abbrev pub term_rule_outcome : TermRule → Theory → NamedTerm → Result Theorem Fault
term_rule_outcome Refl = refl_outcome
term_rule_outcome Beta = beta_outcome
term_rule_outcome Assume = assume_outcome

abbrev pub pair_rule_outcome : PairRule → Theory → Theorem → Theorem → Result Theorem Fault
pair_rule_outcome Trans = trans_outcome
pair_rule_outcome MkComb = mk_comb_outcome
pair_rule_outcome EqMp = eq_mp_outcome
pair_rule_outcome DeductAntisym = deduct_antisym_outcome

abbrev pub axiom_theorem : Axiom → Theory → Theorem
axiom_theorem Eta = eta_theorem
axiom_theorem Select = select_theorem
