use Rattle.hol_check_lines.proofs.StartLemmas.{knows-first}
use Rattle.hol_check_lines.proofs.start.first_known.Goals as goal

pub returns-clause-knows : goal.returns-clause-knows
returns-clause-knows c =
    knows-first c.name.new.self c.name-2.new.self c.first_types.new.terms c.in_ok-equality.equality c.in_ok-choice.choice c.in_ok-equality_ty.equality_ty c.in_ok-equality_ty.choice_ty
    c.in_ok-equality.ensures.number c.in_ok-choice.ensures.grows c.in_ok-choice.ensures.number c.in_ok-equality_ty.ensures.grows
    c.in_ok-equality_ty.ensures.equality c.in_ok-equality_ty.ensures.choice
    c.new-constants.result.entries c.insert.new.self.entries c.insert-2.new.self.entries c.new.result.keys c.new-constants.ensures.empty c.in_ok-insert.ensures.entries
    c.in_ok-insert-2.ensures.entries c.new.ensures.empty
