use Rattle.std.proofs.Common.{◌+◌, map, arith}
use Rattle.std.proofs.lemmas.Result.{err_from_is_err_and}
use Rattle.std.specs.String.{string_bytes}
use Rattle.hol_tactic_grammar.specs.Tokens.{behind}
use Rattle.hol_tactic_grammar.proofs.LeafLemmas.{names-begin-at, names-go-on-at, names-broken-at, names-stopped, names-ended}
use Rattle.hol_tactic_grammar.proofs.leaves.read_names.Goals as goal

pub loop-alloc-init : goal.loop-alloc-init
loop-alloc-init c = names-begin-at c.args.at c.args.tokens.now c.new-names.result.items c.push.new.self.items c.in_ok-first.first c.new-names.ensures.items c.in_ok-push.ensures.items
    c.if-not-is_mark.ensures c.in_ok-first.ensures

pub loop-alloc-preserved : goal.loop-alloc-preserved
loop-alloc-preserved c =
    names-go-on-at c.args.at c.loop-alloc.next c.args.tokens.now c.loop-alloc.names.items c.push-in-loop-alloc.new.self.items c.in_ok-name.name c.in_ok-push-2.ensures.items
    c.loop-alloc.invariant.0 c.loop-alloc.invariant.1
    c.loop-alloc-test.ensures c.in_ok-name.ensures

pub returns-in_err-name : goal.returns-in_err-name
returns-in_err-name c =
    let p = err_from_is_err_and c.from_residual-in_err-name.result c.from_residual-in_err-name.ensures.1 in
    rw (p.1, p.2)
    (names-broken-at c.in_err-name.field-0.0 c.args.at c.loop-alloc.next c.args.tokens.now (map string_bytes c.loop-alloc.names.items) c.loop-alloc.invariant.1 c.loop-alloc-test.ensures
    c.in_err-name.ensures)

pub returns-then-not-is_mark-2 : goal.returns-then-not-is_mark-2
returns-then-not-is_mark-2 c =
    names-stopped (behind c.args.at c.args.tokens.now) (behind c.loop-alloc.next c.args.tokens.now) (map string_bytes c.loop-alloc.names.items) c.loop-alloc.invariant.1 c.if-not-is_mark-2.ensures
    (λ name rest same. c.loop-alloc-test.ensures _ same)

pub returns : goal.returns
returns c = (
  record { further = omega (arith, c.loop-alloc.invariant.0.further); within = omega (arith, c.if-not-is_mark-2.ensures.within) },
  names-ended (behind c.args.at c.args.tokens.now) (behind c.loop-alloc.next c.args.tokens.now) (behind (c.loop-alloc.next + 1) c.args.tokens.now) (map string_bytes
      c.loop-alloc.names.items) c.loop-alloc.invariant.1
      c.if-not-is_mark-2.ensures.front,
)
