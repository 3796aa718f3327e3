use Rattle.std.proofs.Common.{get_or, false, rules}
use Rattle.std.proofs.lemmas.List.FromFn.{fill_by_all}
use Rattle.hol_taut_formulas.proofs.falsity_test.in_full.Goals as goal

pub returns : goal.returns
returns c = fill_by_all (λ place. get_or c.args.row.now place false) c.loop-at.full 14 false c.loop-at.invariant.0 (search rules)
