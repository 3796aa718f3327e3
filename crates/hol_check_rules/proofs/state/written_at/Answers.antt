use Rattle.hol_check_rules.proofs.LineLemmas.{written-named, no-line, found-there, past-end}
use Rattle.hol_check_rules.proofs.state.written_at.Goals as goal

pub returns-in-Some : goal.returns-in-Some
returns-in-Some c = λ table is.
    written-named table c.args.contents.now is c.args.number c.in-Some.found.now
    (found-there c.deref.result.now c.args.contents.now.terms.items c.args.number c.in-Some.found.now c.deref.ensures.value c.in-Some.ensures.lookup.0 c.in-Some.ensures.lookup.1)

pub returns-in-None : goal.returns-in-None
returns-in-None c = λ table is. no-line table c.args.contents.now is c.args.number
    (past-end c.deref.result.now c.args.contents.now.terms.items c.args.number c.deref.ensures.value c.in-None.ensures.lookup.0)
