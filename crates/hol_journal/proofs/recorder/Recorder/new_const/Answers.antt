use Rattle.hol_journal.specs.Recorder.{viewed_recorder}
use Rattle.hol_journal.specs.Steps as steps
use Rattle.hol_journal.proofs.StoredLemmas.{constant-stored}
use Rattle.hol_journal.proofs.GrowthLemmas.{entry-grown}
use Rattle.hol_journal.proofs.recorder.Recorder.new_const.Goals as goal

pub invariant_of-self-2 : goal.invariant_of-self-2
invariant_of-self-2 c =
    constant-stored (viewed_recorder c.self.inside) c.new_const.new.self c.reserve.new.self.entries c.push.new.self.entries _
    c.args.name.now c.args.ty.now c.self.invariant c.reserve.ensures.same c.push.ensures c.in_ok-new_const.ensures.outcome c.type_fit.ensures
    (λ i. steps.declared_constant (c.in_ok-from_str.ensures.ok i) (c.in_ok-copy.ensures.ok i))

pub returns-clause-grown : goal.returns-clause-grown
returns-clause-grown c =
    entry-grown (viewed_recorder c.self.inside) c.args.self.now c.new_const.new.self c.reserve.new.self.entries c.push.new.self.entries _
    c.self.view_is c.reserve.ensures.same c.push.ensures c.in_ok-new_const.ensures.earlier
