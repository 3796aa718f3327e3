use Rattle.std.proofs.Common.{sym, subst}
use Rattle.std.specs.Prelude.{OnOk}
use Rattle.std.specs.List.{All}
use Rattle.hol_logtext.specs.Lines.{rule_of}
use Rattle.hol_check_lines.specs.Named.{AreRuleMade, IsMadePair}
use Rattle.hol_check_lines.proofs.named.make_of_rule.Goals as goal

pub returns-in-Inst-clause-made : goal.returns-in-Inst-clause-made
returns-in-Inst-clause-made c =
    subst (λ rule. OnOk c.make_pairs.result (AreRuleMade c.make_pairs.new.contents (rule_of rule))) (sym c.in-Inst.is)
    (subst (λ pairs. OnOk c.make_pairs.result (All (IsMadePair c.make_pairs.new.contents) pairs)) c.deref.ensures.value c.make_pairs.ensures.made)

pub returns-in-Def-clause-made : goal.returns-in-Def-clause-made
returns-in-Def-clause-made c = subst (λ rule. OnOk c.make_line-in-Def.result (AreRuleMade c.make_line-in-Def.new.contents (rule_of rule))) (sym c.in-Def.is) c.make_line-in-Def.ensures.made
