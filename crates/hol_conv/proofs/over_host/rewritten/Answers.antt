use Rattle.std.proofs.Common.{subst, List, ℕ}
use Rattle.hol_journal.specs.Journal.{theorem_in}
use Rattle.hol_theorem_library.specs.Library.{store_in}
use Rattle.hol_conv.specs.OneStep.{RewritesByName}
use Rattle.hol_conv.proofs.over_host.rewritten.Goals as goal

pub returns-in-Some-clause-rewrites : goal.returns-in-Some-clause-rewrites
returns-in-Some-clause-rewrites c =
    subst (λ (name : List ℕ). RewritesByName (store_in c.args.library.now) name c.args.t.now (theorem_in c.prepared_rewr_conv.result))
    (c.in-Some.ensures.found c.args.library.now c.requires.prepared).of_name c.prepared_rewr_conv.ensures.rewrites

pub prepared_rewr_conv-requires-clause-prepared : goal.prepared_rewr_conv-requires-clause-prepared
prepared_rewr_conv-requires-clause-prepared c = (c.in-Some.ensures.found c.args.library.now c.requires.prepared).prepared
