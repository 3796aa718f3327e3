use Rattle.std.proofs.Common.{refl}
use Rattle.hol_model.specs.Refining.Conversions.{rules_conv}
use Rattle.hol_journal.specs.Journal.{theorem_in}
use Rattle.hol_prelude_derivations.specs.Derivations.{theorems}
use Rattle.hol_theorem_library.specs.Library.{store_in}
use Rattle.hol_conv.proofs.OneSteps.{converts_rules}
use Rattle.hol_conv.proofs.Trying.{other-tried, other-untried}
use Rattle.hol_conv.proofs.by_rules.ByRulesLeaves.try_leaf.Goals as goal

pub returns-then-not-spend-clause-converts : goal.returns-then-not-spend-clause-converts
returns-then-not-spend-clause-converts g c depth =
    let library = c.args.library.now in
    other-untried library.recorder.theory (store_in library) (g.H.Converters.conversions c.args.self.now.hosts.now) (rules_conv (theorems c.args.self.now.rules.now)) c.args._leaf.now c.args.t.now
    c.args.fuel.now.left _ c.requires.leaf refl c.if-not-spend.ensures.none depth

pub returns-clause-converts : goal.returns-clause-converts
returns-clause-converts g c depth =
    let library = c.args.library.now in
    let hosts = g.H.Converters.conversions c.args.self.now.hosts.now in
    let rules = theorems c.args.self.now.rules.now in
    other-tried library.recorder.theory (store_in library) hosts (rules_conv rules) c.args._leaf.now c.args.t.now (theorem_in c.rules_conv.result) c.args.fuel.now.left _
    c.requires.leaf c.if-not-spend.ensures.spent
    (converts_rules library.recorder.theory (store_in library) hosts c.args.t.now rules
    (theorem_in c.rules_conv.result) c.rules_conv.ensures.rewrites) depth

pub returns-clause-stands : goal.returns-clause-stands
returns-clause-stands g c said = c.rules_conv.ensures.stands
