use Rattle.hol_model_rules.proofs.Words.{found-word}
use Rattle.hol_model_rules.proofs.rule_name.RuleName.of_word.Goals as goal

pub returns : goal.returns
returns c = found-word c.args.word.now c.rule_among.result c.rule_among.ensures
