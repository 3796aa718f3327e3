use Rattle.std.proofs.Common.{sym, subst, List, string_bytes, Ok}
use Rattle.hol_model.specs.Rewrites.Rewriting.{AnswersRules}
use Rattle.hol_journal.specs.Journal.{Recorded, theorem_in}
use Rattle.hol_prelude_derivations.specs.Derivations.{theorems}
use Rattle.hol_theorem_library.specs.Library.{store_in}
use Rattle.hol_conv.proofs.OneSteps.{rewritten-by-rules}
use Rattle.hol_conv.proofs.prepared.prepared_rewr_conv.Goals as goal

pub returns-clause-rewrites : goal.returns-clause-rewrites
returns-clause-rewrites c =
    let named = c.args.named.now in
    let rules = c.requires.prepared.rules in
    rewritten-by-rules (store_in c.args.library.now) (string_bytes named.name) c.args.term.now rules.theorem (theorems c.deref.result.now) (theorem_in c.rules_conv.result) rules.stored
    (subst (λ (all : List Recorded). AnswersRules rules.theorem (Ok (theorems all))) (sym c.deref.ensures.value) rules.answers) c.rules_conv.ensures.rewrites
