use Rattle.hol_check_rules.proofs.StepLemmas.{AreChangedBy}
use Rattle.hol_check_rules.proofs.steps.instances.change_each.Given as goal

abbrev pub invariant-loop-number : goal.invariant-loop-number
invariant-loop-number l = AreChangedBy l.change l.fn.terms l.terms l.list l.news.items l.number-index
