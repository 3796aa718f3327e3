use Rattle.std.specs.Prelude.{◌+◌, ◌*◌}
use Rattle.hol_terms.specs.Term.{weight}
use Rattle.hol_subst.proofs.replace.+replaced.Given as goal

abbrev pub decreases-replaced : goal.decreases-replaced
decreases-replaced l = 2 * weight l.term.now

abbrev pub decreases-replaced_body : goal.decreases-replaced_body
decreases-replaced_body l = 2 * weight l.body.now + 1
