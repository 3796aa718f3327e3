use Rattle.std.proofs.Common.{sym, ◌∙◌, ap}
use Rattle.hol_model.specs.Terms.HolType.{type_cmp}
use Rattle.hol_model.proofs.Terms.Orders.{type_cmp-self}
use Rattle.hol_check_terms.specs.Terms.{type_at}
use Rattle.hol_check_terms.proofs.compare.«+compare_types».Goals as goal

pub returns-then-first-second : goal.returns-then-first-second
returns-then-first-second t c =
    let types = c.args.terms.now.types in
    sym (type_cmp-self (type_at types c.args.first)) ∙ ap (λ n. type_cmp (type_at types c.args.first) (type_at types n)) c.if-first-second.true
