use Rattle.std.proofs.Common.{sym, refl}
use Rattle.hol_script_commands.proofs.pairs.parse_type_pair.Goals as goal

pub returns : goal.returns
returns c =
    let new = c.in_ok-new.ensures in
    let old = c.in-Some.ensures in
    ((new.0, c.in-Some.old.now), (new.1.grammatical, new.1.depth), (λ i. (sym new.1.spelled i, sym old.1 i)), (new.2, refl, old.0))
