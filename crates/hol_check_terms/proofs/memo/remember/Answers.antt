use Rattle.std.proofs.Common.{rules, ◌≡◌, true, subst, sym}
use Rattle.hol_check_terms.specs.declared.memo.Place.{Place}
use Rattle.hol_check_terms.specs.Entries.{HasOnlyAdded}
use Rattle.hol_check_terms.specs.contracts.memo.PlacePartialEq.TheImpl.{ghosts}
use Rattle.hol_check_terms.proofs.MemoLemmas.{insert-added}
use Rattle.hol_check_terms.proofs.memo.remember.Goals as goal

same_places : (a b : Place) → ghosts.eq a b ≡ true → a ≡ b
same_places a b same = search rules

pub returns-clause-added : goal.returns-clause-added
returns-clause-added c = subst (λ l. HasOnlyAdded c.args.parts.now.entries l c.args.place c.args.new) (sym c.in_ok-insert.ensures.entries)
    (insert-added ghosts.eq same_places c.args.parts.now.entries c.args.place c.args.new)
