use Rattle.std.proofs.Common.{map, ap, ◌∙◌}
use Rattle.hol_tactic_exprs.specs.Expressions.{tactic_of, link_of}
use Rattle.hol_tactic_exprs.proofs.Rows.{chain_again, orelse_again}
use Rattle.hol_tactic_exprs.proofs.making.«+copying_tac».Goals as goal

pub Tac+Term::copy-returns-in_ok-link_copies-in-Chain-clause-ok : goal.Tac+Term::copy-returns-in_ok-link_copies-in-Chain-clause-ok
Tac+Term::copy-returns-in_ok-link_copies-in-Chain-clause-ok t c =
    chain_again _ _ _ _ c.chain.result c.in-Chain.is
    (c.in_ok-copy-in-Chain.ensures.ok ∙ ap tactic_of c.deref.ensures)
    (c.in_ok-link_copies-in-Chain.ensures.ok ∙ ap (map link_of) c.deref-in-Chain.ensures.value)
    c.chain.ensures.ok

pub Tac+Term::copy-returns-in_ok-tac_copies-in-OrElse-clause-ok : goal.Tac+Term::copy-returns-in_ok-tac_copies-in-OrElse-clause-ok
Tac+Term::copy-returns-in_ok-tac_copies-in-OrElse-clause-ok t c =
    orelse_again _ _ _ _ c.orelse.result c.in-OrElse.is
    (c.in_ok-copy-in-OrElse.ensures.ok ∙ ap tactic_of c.deref-in-OrElse.ensures)
    (c.in_ok-tac_copies-in-OrElse.ensures.ok ∙ ap (map tactic_of) c.deref-in-OrElse-2.ensures.value)
    c.orelse.ensures.ok
