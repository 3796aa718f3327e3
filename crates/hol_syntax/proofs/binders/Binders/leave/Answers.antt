use Rattle.std.proofs.Common.{sym, ◌∙◌}
use Rattle.hol_syntax.proofs.OpenBinders.{none_opened, opened_variable}
use Rattle.hol_syntax.proofs.binders.Binders.leave.Goals as goal

pub returns-in_default : goal.returns-in_default
returns-in_default c = λ bindings h. none_opened bindings (sym h.opened ∙ c.in_default.ensures)

pub returns-in_default-dest_var : goal.returns-in_default-dest_var
returns-in_default-dest_var c = λ bindings h. absurd (opened_variable bindings c.in-Some.field-0 _ (sym c.in-Some.ensures ∙ h.opened) (sym c.in_default-dest_var.ensures.parts))
