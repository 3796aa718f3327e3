use Rattle.std.proofs.Common.{rules}
use Rattle.hol_check_lines.proofs.StepPairLemmas.{term-pairs-found}
use Rattle.hol_check_lines.proofs.step_pairs.term_pairs.Goals as goal

pub returns-clause-found : goal.returns-clause-found
returns-clause-found c =
    term-pairs-found c.args.terms.now c.args.contents.now _ c.args.lines.now c.requires.made c.pairs_at.result c.pairs_at.ensures.found (λ line number given made. search rules)
