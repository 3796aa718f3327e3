use Rattle.std.proofs.Common.{ap, refl, inl, inr}
use Rattle.hol_journal.specs.Steps as steps
use Rattle.hol_journal.specs.Views.{step_of}
use Rattle.hol_journal_log.proofs.MarkingLemmas.{within_of}
use Rattle.hol_journal_log.proofs.needed.cite_rule.Goals as goal

pub mark_both-requires-clause-first : goal.mark_both-requires-clause-first
mark_both-requires-clause-first c = within_of (step_of c.args.rule.now) (steps.by_trans c.in-Trans.first c.in-Trans.second) _ _ (ap step_of c.in-Trans.is) c.requires (inl refl)

pub mark_both-requires-clause-second : goal.mark_both-requires-clause-second
mark_both-requires-clause-second c = within_of (step_of c.args.rule.now) (steps.by_trans c.in-Trans.first c.in-Trans.second) _ _ (ap step_of c.in-Trans.is) c.requires (inr (inl refl))

pub mark_both-requires-in-MkComb-clause-first : goal.mark_both-requires-in-MkComb-clause-first
mark_both-requires-in-MkComb-clause-first c = within_of (step_of c.args.rule.now) (steps.by_mk_comb c.in-MkComb.first c.in-MkComb.second) _ _ (ap step_of c.in-MkComb.is) c.requires (inl refl)

pub mark_both-requires-in-MkComb-clause-second : goal.mark_both-requires-in-MkComb-clause-second
mark_both-requires-in-MkComb-clause-second c = within_of (step_of c.args.rule.now) (steps.by_mk_comb c.in-MkComb.first c.in-MkComb.second) _ _ (ap step_of c.in-MkComb.is) c.requires (inr (inl refl))

pub mark_both-requires-in-EqMp-clause-first : goal.mark_both-requires-in-EqMp-clause-first
mark_both-requires-in-EqMp-clause-first c = within_of (step_of c.args.rule.now) (steps.by_eq_mp c.in-EqMp.first c.in-EqMp.second) _ _ (ap step_of c.in-EqMp.is) c.requires (inl refl)

pub mark_both-requires-in-EqMp-clause-second : goal.mark_both-requires-in-EqMp-clause-second
mark_both-requires-in-EqMp-clause-second c = within_of (step_of c.args.rule.now) (steps.by_eq_mp c.in-EqMp.first c.in-EqMp.second) _ _ (ap step_of c.in-EqMp.is) c.requires (inr (inl refl))

pub mark_both-requires-in-DeductAntisym-clause-first : goal.mark_both-requires-in-DeductAntisym-clause-first
mark_both-requires-in-DeductAntisym-clause-first c =
    within_of (step_of c.args.rule.now) (steps.by_deduct c.in-DeductAntisym.first c.in-DeductAntisym.second) _ _
    (ap step_of c.in-DeductAntisym.is) c.requires (inl refl)

pub mark_both-requires-in-DeductAntisym-clause-second : goal.mark_both-requires-in-DeductAntisym-clause-second
mark_both-requires-in-DeductAntisym-clause-second c =
    within_of (step_of c.args.rule.now) (steps.by_deduct c.in-DeductAntisym.first c.in-DeductAntisym.second) _ _
    (ap step_of c.in-DeductAntisym.is) c.requires (inr (inl refl))

pub mark-requires : goal.mark-requires
mark-requires c = within_of (step_of c.args.rule.now) (steps.by_abs c.in-Abs.field-0 c.in-Abs.theorem) _ _ (ap step_of c.in-Abs.is) c.requires (inl refl)

pub mark-requires-in-Inst : goal.mark-requires-in-Inst
mark-requires-in-Inst c = within_of (step_of c.args.rule.now) (steps.by_inst c.in-Inst.theorem c.in-Inst.field-1.items) _ _ (ap step_of c.in-Inst.is) c.requires (inl refl)

pub mark-requires-in-InstType : goal.mark-requires-in-InstType
mark-requires-in-InstType c = within_of (step_of c.args.rule.now) (steps.by_inst_type c.in-InstType.theorem c.in-InstType.field-1.items) _ _ (ap step_of c.in-InstType.is) c.requires (inl refl)
