use Rattle.std.proofs.Common.{sym, subst}
use Rattle.std.specs.Prelude.{OnOk}
use Rattle.std.specs.List.{All}
use Rattle.hol_logtext.specs.Lines.{line_of}
use Rattle.hol_check_rules.specs.Judged.{IsMadeLine}
use Rattle.hol_check_lines.specs.Named.{AreNamedMade}
use Rattle.hol_check_lines.proofs.NamedLemmas.{made_claim}
use Rattle.hol_check_lines.proofs.named.make_named.Goals as goal

pub returns-in_ok-make_lines-in-Claim-clause-made : goal.returns-in_ok-make_lines-in-Claim-clause-made
returns-in_ok-make_lines-in-Claim-clause-made c =
    subst (λ line. OnOk c.make_line.result (AreNamedMade c.make_line.new.contents (line_of line))) (sym c.in-Claim.is)
    (made_claim c.make_line.result c.make_lines.new.terms c.make_line.new.terms c.make_lines.new.contents c.make_line.new.contents c.in-Claim.conclusion c.in-Claim.hypotheses.items
    c.make_line.ensures.makes
    (subst (All (IsMadeLine c.make_lines.new.contents)) c.deref.ensures.value c.in_ok-make_lines-in-Claim.ensures.made) c.make_line.ensures.made)
