use Rattle.hol_model.specs.Terms.NamedTerm.{nodes}
use Rattle.hol_rewrite.proofs.rules.+rules_under.Given as goal

abbrev pub decreases-rules_under : goal.decreases-rules_under
decreases-rules_under l = nodes l.theorem.now.theorem.conclusion
