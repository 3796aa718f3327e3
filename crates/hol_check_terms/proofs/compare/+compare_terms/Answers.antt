use Rattle.std.proofs.Common.{sym, ◌∙◌, ap}
use Rattle.hol_model.specs.Terms.Nameless.{nameless_cmp}
use Rattle.hol_model.proofs.Terms.Orders.{nameless_cmp-self}
use Rattle.hol_check_terms.specs.Terms.{term_at}
use Rattle.hol_check_terms.proofs.compare.«+compare_terms».Goals as goal

pub returns-then-first-second : goal.returns-then-first-second
returns-then-first-second t c =
    let terms = c.args.terms.now.terms in
    sym (nameless_cmp-self (term_at terms c.args.first)) ∙ ap (λ n. nameless_cmp (term_at terms c.args.first) (term_at terms n)) c.if-first-second.true
