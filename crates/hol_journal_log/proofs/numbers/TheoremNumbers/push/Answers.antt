use Rattle.std.proofs.Common.{◌≡◌, false, nat_eq, subst, sym}
use Rattle.std.specs.List.{list_any}
use Rattle.hol_journal_log.proofs.NumberedLemmas.{pushed_distinct}
use Rattle.hol_journal_log.proofs.numbers.TheoremNumbers.push.Goals as goal

pub invariant_of-self-2 : goal.invariant_of-self-2
invariant_of-self-2 c = record {
  distinct = pushed_distinct _ _ c.args.entry c.self.invariant.distinct (subst (λ entries. list_any (nat_eq c.args.entry) entries ≡ false) (sym c.self.view_is) c.requires) c.in_ok-push.ensures.items;
}
