use Rattle.std.proofs.lemmas.Result.{err_from_is_err_and}
use Rattle.hol_script_commands.proofs.PairLemmas.{more-types, types-refused}
use Rattle.hol_script_commands.proofs.pairs.parse_type_pairs.Goals as goal

pub returns-in_err-types : goal.returns-in_err-types
returns-in_err-types c =
    let p = err_from_is_err_and c.from_residual.result c.from_residual.ensures.1 in
    rw (p.1, p.2)
    (types-refused c.in_err-types.field-0.0 c.args.pairs.now c.loop-pair.pair-index _ c.loop-pair-test.true c.in_err-types.ensures)

pub loop-pair-preserved : goal.loop-pair-preserved
loop-pair-preserved c =
    more-types c.args.pairs.now c.loop-pair.pair-index _ c.push.new.self.items c.loop-pair.parsed.items c.in_ok-types.types
    c.loop-pair-test.true c.in_ok-push.ensures.items c.loop-pair.invariant c.in_ok-types.ensures
