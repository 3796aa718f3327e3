use Rattle.std.proofs.Common.{◌+◌, refl, sym, ap, subst}
use Rattle.hol_journal.specs.Steps.{derived}
use Rattle.hol_journal.specs.Views.{step_of}
use Rattle.hol_model.specs.Goals.Goals.{Sequent}
use Rattle.hol_journal.specs.KeptViews.{IsKept}
use Rattle.hol_journal.specs.declared.kept.KeptEntries.TheInside as kept
use Rattle.hol_journal.proofs.NumberedLemmas.{kept_grown, one_counted, none_kept}
use Rattle.hol_journal.proofs.kept.KeptEntries.push_step.Goals as goal
use Rattle.hol_journal.proofs.kept.KeptEntries.push_step.Goals.{in-Some+else-is_err, in_default}

pub invariant_of-self-2 : goal.invariant_of-self-2
invariant_of-self-2 c = elim c.match-self.branch [
  | in-Some+else-is_err w ↦ subst
      (λ (inside : kept.Inside). IsKept (record { count = inside.count + 1; kept = inside.kept; trail = c.with_step-trail.result }))
      (sym w.self-inside-is) (record {
        counted = one_counted _ _ _ _ c.self.invariant.counted c.with_step-trail.ensures;
        kept = kept_grown _ _ _ _ _ _ _ _ _ w.in-Some.is c.self.invariant.kept c.self.invariant.counted c.with_step-trail.ensures w.reserve.ensures.items
            w.push_reserved.ensures.items refl (ap (λ (s : Sequent). derived (step_of c.args.rule) s) w.of.ensures);
      })
  | in_default w ↦ subst (λ (inside : kept.Inside). IsKept (record { count = inside.count + 1; kept = inside.kept; trail = c.with_step-trail.result })) (sym w.self-inside-is) (record {
    counted = one_counted _ _ _ _ c.self.invariant.counted c.with_step-trail.ensures;
    kept = none_kept c.with_step-trail.result.entries _ w.in_default.is;
  })
]
