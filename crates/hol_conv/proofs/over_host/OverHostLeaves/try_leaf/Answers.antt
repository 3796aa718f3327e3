use Rattle.hol_journal.specs.Journal.{theorem_in}
use Rattle.hol_theorem_library.specs.Library.{store_in}
use Rattle.hol_conv.proofs.Trying.{leaf-tried, leaf-untried}
use Rattle.hol_conv.proofs.over_host.OverHostLeaves.try_leaf.Goals as goal

pub returns-then-not-spend-clause-converts : goal.returns-then-not-spend-clause-converts
returns-then-not-spend-clause-converts g c depth =
    let library = c.args.library.now in
    leaf-untried library.recorder.theory (store_in library) (g.H.Converters.conversions c.args.self.now.hosts.now) c.args.leaf.now c.args.t.now c.args.fuel.now.left _
    c.requires.leaf c.if-not-spend.ensures.none depth

pub returns-clause-converts : goal.returns-clause-converts
returns-clause-converts g c depth =
    let library = c.args.library.now in
    leaf-tried library.recorder.theory (store_in library) (g.H.Converters.conversions c.args.self.now.hosts.now) c.args.leaf.now c.args.t.now (theorem_in c.one_step.result) c.args.fuel.now.left
    _ c.if-not-spend.ensures.spent c.one_step.ensures.converts depth

pub returns-clause-stands : goal.returns-clause-stands
returns-clause-stands g c = c.one_step.ensures.stands
