use Rattle.std.proofs.Common.{sym}
use Rattle.hol_script_commands.proofs.pairs.parse_term_pair.Goals as goal

pub returns : goal.returns
returns c =
    let new = c.in_ok-new.ensures in
    let old = c.in_ok-old.ensures in
    ((new.0, old.0), (new.1.grammatical, new.1.depth), (old.1.grammatical, old.1.depth), (λ i. (sym new.1.spelled i, sym old.1.spelled i)), (new.2, old.2))
