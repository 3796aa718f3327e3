use Rattle.std.proofs.Common.{◌≡◌, true, refl, sym, ap, subst, ◌∙◌}
use Rattle.std.proofs.lemmas.Bool.{ltb-true}
use Rattle.hol_journal.specs.KeptViews.{room_in}
use Rattle.hol_journal.proofs.KeptLemmas.{room-count, room-kept}
use Rattle.hol_journal.specs.KeptViews.{IsKept}
use Rattle.hol_journal.proofs.NumberedLemmas.{kept_grown, one_counted, none_kept}
use Rattle.hol_journal.proofs.kept.KeptEntries.push.Goals as goal
use Rattle.hol_journal.proofs.kept.KeptEntries.push.Goals.{in-Some, in-None}

pub push_reserved-requires : goal.push_reserved-requires
push_reserved-requires c = ltb-true _ _ (subst (λ k. room_in k ≡ true) c.in-Some.is (room-kept c.self.inside (ap (λ h. h.has_room) c.self.view_is ∙ c.requires)))

pub overflow_add-self : goal.overflow_add-self
overflow_add-self c = record { fits = room-count c.self.inside (ap (λ h. h.has_room) c.self.view_is ∙ c.requires) }

pub invariant_of-self : goal.invariant_of-self
invariant_of-self c = elim c.match-self.branch [
  | in-Some w ↦ subst IsKept (sym w.self-inside-is) (record {
    counted = one_counted _ _ _ _ c.self.invariant.counted c.with-self-inside.ensures;
    kept = kept_grown _ _ _ _ _ _ _ _ _ w.in-Some.is c.self.invariant.kept c.self.invariant.counted c.with-self-inside.ensures refl w.push_reserved.ensures.items refl refl;
  })
  | in-None w ↦ subst IsKept (sym w.self-inside-is) (record {
    counted = one_counted _ _ _ _ c.self.invariant.counted c.with-self-inside.ensures;
    kept = none_kept c.with-self-inside.result.entries _ w.in-None.is;
  })
]
