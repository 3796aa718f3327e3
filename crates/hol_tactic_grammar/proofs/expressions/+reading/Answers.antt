use Rattle.std.proofs.Common.{◌∙◌, Ok, arith, subst}
use Rattle.std.proofs.lemmas.Result.{err_from_is_err_and}
use Rattle.hol_syntax.specs.Scope.{scope_of}
use Rattle.hol_tactic_exprs.specs.declared.tac.Link.{Thenl}
use Rattle.hol_tactic_exprs.specs.Expressions.{tactic_of, link_of}
use Rattle.hol_tactic_exprs.proofs.Rows.{thenl_means}
use Rattle.hol_tactic_grammar.specs.Reading.{tactics_made, links_made, ReadsExpression, ReadsLink}
use Rattle.hol_tactic_grammar.proofs.Parts.{made-of-one, refused-of-one, made-in-turn, refused-second, list-goes-on, list-ended, links-goes-on, links-ended}
use Rattle.hol_tactic_grammar.proofs.Wholes.{chain-in-turn, orelse-in-turn, thenl-of-one}
use Rattle.hol_tactic_grammar.proofs.expressions.«+reading».Goals as goal

-- ---- chains

pub read_expression-returns-in_ok-links-in-Chain : goal.read_expression-returns-in_ok-links-in-Chain
read_expression-returns-in_ok-links-in-Chain t c = λ outcome read.
    made-in-turn tactic_of (tactic_of c.in_ok-first-in-Chain.first) (links_made c.in_ok-links-in-Chain.links) c.chain.result outcome
    (chain-in-turn (scope_of c.args.scope.now) c.in-Chain.first c.in-Chain.links outcome c.in-Chain.is c.deref.ensures c.deref-in-Chain.ensures.value read)
    c.in_ok-first-in-Chain.ensures c.in_ok-links-in-Chain.ensures c.chain.ensures.ok c.chain.ensures.err

pub read_expression-returns-in_err-links-in-Chain : goal.read_expression-returns-in_err-links-in-Chain
read_expression-returns-in_err-links-in-Chain t c =
    let p = err_from_is_err_and c.from_residual-in_err-links-in-Chain.result c.from_residual-in_err-links-in-Chain.ensures.1 in
    rw (p.1, p.2) (λ outcome read.
    refused-second (tactic_of c.in_ok-first-in-Chain.first) c.in_err-links-in-Chain.field-0.0 outcome
    (chain-in-turn (scope_of c.args.scope.now) c.in-Chain.first c.in-Chain.links outcome c.in-Chain.is c.deref.ensures c.deref-in-Chain.ensures.value read)
    c.in_ok-first-in-Chain.ensures c.in_err-links-in-Chain.ensures)

pub read_expression-returns-in_ok-others-in-OrElse : goal.read_expression-returns-in_ok-others-in-OrElse
read_expression-returns-in_ok-others-in-OrElse t c = λ outcome read.
    made-in-turn tactic_of (tactic_of c.in_ok-first-in-OrElse.first) (tactics_made c.in_ok-others-in-OrElse.others) c.orelse.result outcome
    (orelse-in-turn (scope_of c.args.scope.now) c.in-OrElse.first c.in-OrElse.others outcome c.in-OrElse.is c.deref-in-OrElse.ensures c.deref-in-OrElse-2.ensures.value read)
    c.in_ok-first-in-OrElse.ensures c.in_ok-others-in-OrElse.ensures c.orelse.ensures.ok c.orelse.ensures.err

pub read_expression-returns-in_err-others-in-OrElse : goal.read_expression-returns-in_err-others-in-OrElse
read_expression-returns-in_err-others-in-OrElse t c =
    let p = err_from_is_err_and c.from_residual-in_err-others-in-OrElse.result c.from_residual-in_err-others-in-OrElse.ensures.1 in
    rw (p.1, p.2) (λ outcome read.
    refused-second (tactic_of c.in_ok-first-in-OrElse.first) c.in_err-others-in-OrElse.field-0.0 outcome
    (orelse-in-turn (scope_of c.args.scope.now) c.in-OrElse.first c.in-OrElse.others outcome c.in-OrElse.is c.deref-in-OrElse.ensures c.deref-in-OrElse-2.ensures.value read)
    c.in_ok-first-in-OrElse.ensures c.in_err-others-in-OrElse.ensures)

-- ---- THENL

pub read_link-returns-in_ok-read_each-in-Thenl : goal.read_link-returns-in_ok-read_each-in-Thenl
read_link-returns-in_ok-read_each-in-Thenl t c = λ outcome read.
    made-of-one link_of (tactics_made c.in_ok-read_each-in-Thenl.field-0) (Ok (Thenl c.in_ok-read_each-in-Thenl.field-0)) outcome
    (thenl-of-one (scope_of c.args.scope.now) c.in-Thenl.tacs outcome c.in-Thenl.is c.deref.ensures.value read)
    c.in_ok-read_each-in-Thenl.ensures (thenl_means c.in_ok-read_each-in-Thenl.field-0) tt

pub read_link-returns-in_err-read_each-in-Thenl : goal.read_link-returns-in_err-read_each-in-Thenl
read_link-returns-in_err-read_each-in-Thenl t c =
    let p = err_from_is_err_and c.from_residual-in_err-read_each-in-Thenl.result c.from_residual-in_err-read_each-in-Thenl.ensures.1 in
    rw (p.1, p.2) (λ outcome read.
    refused-of-one c.in_err-read_each-in-Thenl.field-0.0 outcome
    (thenl-of-one (scope_of c.args.scope.now) c.in-Thenl.tacs outcome c.in-Thenl.is c.deref.ensures.value read)
    c.in_err-read_each-in-Thenl.ensures)

-- ---- lists

pub read_each-loop-tac-preserved : goal.read_each-loop-tac-preserved
read_each-loop-tac-preserved t c = λ outcome read.
    let scope = scope_of c.args.scope.now in
    list-goes-on scope c.args.tacs.now c.loop-tac.tac-index c.tac-item.result c.loop-tac.each.items c.push.new.self.items c.in_ok-tac.tac outcome (omega arith)
    (c.loop-tac.invariant outcome read) (subst (λ item. ReadsExpression scope item (Ok c.in_ok-tac.tac)) c.tac-item.is c.in_ok-tac.ensures) c.in_ok-push.ensures.items

pub read_each-returns : goal.read_each-returns
read_each-returns t c = λ outcome read.
    list-ended (scope_of c.args.scope.now) c.args.tacs.now c.loop-tac.tac-index c.loop-tac.each.items outcome c.loop-tac-test.false (c.loop-tac.invariant outcome read)

pub read_links-loop-link-preserved : goal.read_links-loop-link-preserved
read_links-loop-link-preserved t c = λ outcome read.
    let scope = scope_of c.args.scope.now in
    links-goes-on scope c.args.links.now c.loop-link.link-index c.link-item.result c.loop-link.each.items c.push.new.self.items c.in_ok-link.link outcome (omega arith)
    (c.loop-link.invariant outcome read) (subst (λ item. ReadsLink scope item (Ok c.in_ok-link.link)) c.link-item.is c.in_ok-link.ensures) c.in_ok-push.ensures.items

pub read_links-returns : goal.read_links-returns
read_links-returns t c = λ outcome read.
    links-ended (scope_of c.args.scope.now) c.args.links.now c.loop-link.link-index c.loop-link.each.items outcome c.loop-link-test.false (c.loop-link.invariant outcome read)
