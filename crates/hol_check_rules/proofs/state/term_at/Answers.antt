use Rattle.hol_check_rules.proofs.LineLemmas.{made-named, not-made}
use Rattle.hol_check_rules.proofs.state.term_at.Goals as goal

pub returns-in-Some : goal.returns-in-Some
returns-in-Some c = λ table is made. made-named table c.args.contents.now is c.args.number c.in-Some.found.now c.in-Some.ensures.value

pub returns-in-None : goal.returns-in-None
returns-in-None c = λ table is made. not-made table c.args.contents.now is c.args.number c.in-None.ensures.value made
