use Rattle.std.proofs.Common.{sym, subst}
use Rattle.hol_check_lines.specs.Added.{IsAdded}
use Rattle.hol_check_lines.proofs.AdditionLemmas.{gains-type, keeps-types, gains-line, keeps-lines, gains-claim, keeps-claims}
use Rattle.hol_check_lines.proofs.addition.add.Goals as goal

pub returns-in-Ended-clause-added : goal.returns-in-Ended-clause-added
returns-in-Ended-clause-added c = λ table is stands. subst (λ addition. IsAdded table c.args.contents.now addition c.end.new.contents) (sym c.in-Ended.is) (c.end.ensures table is)

pub returns-in-TypeNumber-clause-added : goal.returns-in-TypeNumber-clause-added
returns-in-TypeNumber-clause-added c = gains-type c.args.contents.now c.args.addition _ c.in-TypeNumber.number c.push.result c.in-TypeNumber.is c.push.ensures.added

pub returns-in-TypeNumber-clause-kept : goal.returns-in-TypeNumber-clause-kept
returns-in-TypeNumber-clause-kept c = keeps-types c.args.contents.now c.args.addition _ c.push.result c.push.ensures.kept

pub returns-in-TermLine-clause-added : goal.returns-in-TermLine-clause-added
returns-in-TermLine-clause-added c = gains-line c.args.contents.now c.args.addition _ c.in-TermLine.line c.push-in-TermLine.result c.in-TermLine.is c.push-in-TermLine.ensures.added

pub returns-in-TermLine-clause-kept : goal.returns-in-TermLine-clause-kept
returns-in-TermLine-clause-kept c = keeps-lines c.args.contents.now c.args.addition _ c.push-in-TermLine.result c.push-in-TermLine.ensures.kept

pub returns-in-Claimed-clause-added : goal.returns-in-Claimed-clause-added
returns-in-Claimed-clause-added c = gains-claim c.args.contents.now c.args.addition _ c.in-Claimed.claim c.push-in-Claimed.result c.in-Claimed.is c.push-in-Claimed.ensures.added

pub returns-in-Claimed-clause-kept : goal.returns-in-Claimed-clause-kept
returns-in-Claimed-clause-kept c = keeps-claims c.args.contents.now c.args.addition _ c.push-in-Claimed.result c.push-in-Claimed.ensures.kept
