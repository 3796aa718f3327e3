use Rattle.std.proofs.Common.{◌∙◌}
use Rattle.hol_check_rules.proofs.KnownLemmas.{declared-answer}
use Rattle.hol_check_rules.proofs.known.is_declared.Goals as goal

pub returns : goal.returns
returns c = λ entries knows. c.contains.ensures ∙ declared-answer c.args.terms.now c.have_one_number.ensures.names _ _ entries knows c.args.name c.requires
