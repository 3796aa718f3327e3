use Rattle.std.proofs.Common.{refl}
use Rattle.hol_refine.proofs.rules.rules_of_one.Goals as goal

pub returns-clause-library : goal.returns-clause-library
returns-clause-library c =
    c.libraries_continue.ensures c.args.library.now _
    (record { grown = c.rules_of.ensures.goes_on.grown; theory = c.rules_of.ensures.goes_on.theory; logic = refl; laws = refl; stored = refl })
    c.requires.library
