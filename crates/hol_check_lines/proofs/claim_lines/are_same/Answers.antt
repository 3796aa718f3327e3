use Rattle.std.proofs.Common.{◌∙◌}
use Rattle.hol_check_lines.proofs.ClaimLineLemmas.{same-numbers}
use Rattle.hol_check_lines.proofs.claim_lines.are_same.Goals as goal

pub returns : goal.returns
returns c = c.eq.ensures ∙ same-numbers c.args.terms.now.terms c.have_one_number.ensures.terms c.args.first.now c.args.second.now c.requires.first c.requires.second
