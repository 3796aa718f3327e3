use Rattle.std.proofs.Common.{ap, refl, sym}
use Rattle.std.specs.Option.{option_map}
use Rattle.hol_journal.specs.Journal.{Recorded}
use Rattle.hol_theorem_library.specs.Library.{store_in}
use Rattle.hol_conv.specs.Prepared.{is_unnamed}
use Rattle.hol_conv.proofs.StoredRules.{refused-rules}
use Rattle.hol_conv.proofs.prepared.stored_rules.Goals as goal

pub returns-in-Some-clause-library : goal.returns-in-Some-clause-library
returns-in-Some-clause-library c =
    c.libraries_continue.ensures c.args.library.now _
    (record { grown = c.rules_of.ensures.goes_on.grown; theory = c.rules_of.ensures.goes_on.theory; logic = refl; laws = refl; stored = refl })
    c.requires.library

pub returns-in-Some-clause-err : goal.returns-in-Some-clause-err
returns-in-Some-clause-err c =
    refused-rules (store_in c.args.library.now) c.args.name.now c.in-Some.theorem.now.theorem c.rules_of.result
    (ap (option_map (λ (made : Recorded). made.theorem)) (sym c.in-Some.ensures.found)) c.rules_of.ensures.err

pub returns-in-None-clause-err : goal.returns-in-None-clause-err
returns-in-None-clause-err c = is_unnamed (ap (option_map (λ (made : Recorded). made.theorem)) (sym c.in-None.ensures.found))
