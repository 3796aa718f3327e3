use Rattle.std.proofs.Common.{sym, subst}
use Rattle.std.specs.List.{All}
use Rattle.hol_logtext.specs.Lines.{line_of}
use Rattle.hol_check_rules.specs.Judged.{IsMadeLine}
use Rattle.hol_check_lines.specs.Named.{AreNamedMade}
use Rattle.hol_check_lines.proofs.judge.judge.Goals as goal

pub judge_claim-requires-clause-conclusion : goal.judge_claim-requires-clause-conclusion
judge_claim-requires-clause-conclusion c = (subst (λ line. AreNamedMade c.args.contents.now (line_of line)) c.in-Claim.is c.requires.made).0

pub judge_claim-requires-clause-hypotheses : goal.judge_claim-requires-clause-hypotheses
judge_claim-requires-clause-hypotheses c =
    subst (All (IsMadeLine c.args.contents.now)) (sym c.deref.ensures.value) (subst (λ line. AreNamedMade c.args.contents.now (line_of line)) c.in-Claim.is c.requires.made).1
