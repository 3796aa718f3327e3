use Rattle.std.proofs.Common.{sym, subst}
use Rattle.std.specs.List.{All}
use Rattle.hol_model.specs.Logs.LogLine.LogLine.{theorem_line}
use Rattle.hol_model.specs.Logs.LogLine.LogRule.{eta_step, select_step}
use Rattle.hol_logtext.specs.Lines.{rule_of}
use Rattle.hol_check_rules.specs.State.{state_of}
use Rattle.hol_check_rules.specs.Judged.{Judges}
use Rattle.hol_check_rules.specs.Steps as steps
use Rattle.hol_check_lines.specs.Named.{AreRuleMade, IsMadePair}
use Rattle.hol_check_lines.proofs.JudgedSteps.{eta-step, select-step}
use Rattle.hol_check_lines.proofs.step.judge_step.Goals as goal

pub judge_inst-requires-clause-made : goal.judge_inst-requires-clause-made
judge_inst-requires-clause-made c =
    subst (All (IsMadePair c.args.contents.now)) (sym c.deref.ensures.value) (subst (λ rule. AreRuleMade c.args.contents.now (rule_of rule)) c.in-Inst.is c.requires.made)

pub judge_definition-requires-clause-made : goal.judge_definition-requires-clause-made
judge_definition-requires-clause-made c = subst (λ rule. AreRuleMade c.args.contents.now (rule_of rule)) c.in-Def.is c.requires.made

pub returns-in-Eta : goal.returns-in-Eta
returns-in-Eta c =
    subst (λ rule. Judges (theorem_line (rule_of rule)) c.args.contents.now c.args.terms.now c.judged.result c.eta.new.terms) (sym c.in-Eta.is)
    (c.judged.ensures eta_step c.args.contents.now c.args.terms.now c.eta.new.terms steps.eta_step c.requires.contents.room c.eta.ensures.grows
    (eta-step (state_of c.args.terms.now c.args.contents.now)) c.eta.ensures.taken)

pub returns-in-Select : goal.returns-in-Select
returns-in-Select c =
    subst (λ rule. Judges (theorem_line (rule_of rule)) c.args.contents.now c.args.terms.now c.judged-in-Select.result c.select.new.terms) (sym c.in-Select.is)
    (c.judged-in-Select.ensures select_step c.args.contents.now c.args.terms.now c.select.new.terms steps.select_step c.requires.contents.room c.select.ensures.grows
    (select-step (state_of c.args.terms.now c.args.contents.now)) c.select.ensures.taken)
