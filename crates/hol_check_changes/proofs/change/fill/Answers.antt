use Rattle.std.proofs.Common.{refl, subst}
use Rattle.std.proofs.lemmas.Option.{slice_get-get_or}
use Rattle.hol_model.specs.Terms.Nameless.{bound}
use Rattle.hol_check_terms.specs.Terms.{term_at}
use Rattle.hol_check_changes.specs.Change.{filling, IsAnswered}
use Rattle.hol_check_changes.proofs.ChangeLemmas.{changed-filling}
use Rattle.hol_check_changes.proofs.LimitLemmas.{is-made}
use Rattle.hol_check_changes.proofs.change.fill.Goals as goal

pub change_whole-requires-clause-meaning : goal.change_whole-requires-clause-meaning
change_whole-requires-clause-meaning c =
    let new = term_at c.args.terms.now.terms c.args.new in
    record { meaning = filling new; meant = record { term = new; is_term = slice_get-get_or c.args.terms.now.terms c.args.new (bound 0) c.requires.new; is_meant = refl } }

pub returns-clause-filled : goal.returns-clause-filled
returns-clause-filled c =
    let new = term_at c.args.terms.now.terms c.args.new in
    is-made _ c.change_whole.result c.change_whole.new.terms.terms
    (subst (λ u. IsAnswered u c.change_whole.result c.change_whole.new.terms.terms) (changed-filling new 0 (term_at c.args.terms.now.terms c.args.number))
    (c.change_whole.ensures.changed (filling new) (record { term = new; is_term = slice_get-get_or c.args.terms.now.terms c.args.new (bound 0) c.requires.new; is_meant = refl })))
