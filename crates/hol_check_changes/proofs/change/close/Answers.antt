use Rattle.std.proofs.Common.{refl, subst}
use Rattle.hol_check_terms.specs.Terms.{term_at}
use Rattle.hol_check_changes.specs.Change.{closing, IsAnswered}
use Rattle.hol_check_changes.proofs.ChangeLemmas.{changed-closing}
use Rattle.hol_check_changes.proofs.change.close.Goals as goal

pub change_whole-requires-clause-meaning : goal.change_whole-requires-clause-meaning
change_whole-requires-clause-meaning c =
    let variable = c.requires.variable in
    record { meaning = closing variable.name variable.ty; meant = record { name = variable.name; ty = variable.ty; is_variable = variable.is_free; is_meant = refl } }

pub returns-clause-closed : goal.returns-clause-closed
returns-clause-closed c = λ name ty there.
    subst (λ u. IsAnswered u c.change_whole.result c.change_whole.new.terms.terms) (changed-closing name ty 0 (term_at c.args.terms.now.terms c.args.number))
    (c.change_whole.ensures.changed (closing name ty) (record { name = name; ty = ty; is_variable = there; is_meant = refl }))
