-- The rules whose lines name the same kinds of premises.
use Rattle.std.specs.Prelude.{ℕ}
use Rattle.hol_model.specs.Terms.Nameless.{Nameless}
use Rattle.hol_model.specs.Goals.Goals.{Sequent}
use Rattle.hol_model.specs.Logs.LogLine.{LogRule}
use Rattle.hol_model.specs.Logs.LogLine.LogRule.{refl_step, trans_step, mk_comb_step, beta_step, assume_step, eq_mp_step, deduct_step}
use Rattle.hol_check_rules.specs.Steps as steps
use Rattle.hol_check_rules.specs.Steps.{Step}
use Rattle.hol_check_lines.specs.declared.step.TermRule.{TermRule}
use Rattle.hol_check_lines.specs.declared.step.TermRule.TheVariants.{Refl, Beta, Assume}
use Rattle.hol_check_lines.specs.declared.step.PairRule.{PairRule}
use Rattle.hol_check_lines.specs.declared.step.PairRule.TheVariants.{Trans, MkComb, EqMp, Deduct}

-- a rule over a term: the line, and its step

abbrev pub term_rule : TermRule → ℕ → LogRule
term_rule Refl term = refl_step term
term_rule Beta term = beta_step term
term_rule Assume term = assume_step term

abbrev pub term_step : TermRule → Nameless → Step
term_step Refl term = steps.refl_step term
term_step Beta term = steps.beta_step term
term_step Assume term = steps.assume_step term

-- a rule over two theorems: the line, and its step

abbrev pub pair_rule : PairRule → ℕ → ℕ → LogRule
pair_rule Trans first second = trans_step first second
pair_rule MkComb first second = mk_comb_step first second
pair_rule EqMp first second = eq_mp_step first second
pair_rule Deduct first second = deduct_step first second

abbrev pub pair_step : PairRule → Sequent → Sequent → Step
pair_step Trans first second = steps.trans_step first second
pair_step MkComb first second = steps.mk_comb_step first second
pair_step EqMp first second = steps.eq_mp_step first second
pair_step Deduct first second = steps.deduct_step first second
