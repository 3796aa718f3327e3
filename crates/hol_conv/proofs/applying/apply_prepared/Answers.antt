use Rattle.hol_journal.specs.Journal.{theorem_in}
use Rattle.hol_theorem_library.specs.Library.{store_in}
use Rattle.hol_conv.proofs.Trying.{expression-converts}
use Rattle.hol_conv.proofs.applying.apply_prepared.Goals as goal

pub returns-clause-outcome : goal.returns-clause-outcome
returns-clause-outcome g c =
    let library = c.args.library.now in
    expression-converts library.recorder.theory (store_in library) (g.H.Converters.conversions c.args.hosts.now) c.args.conv.now c.args.t.now (theorem_in c.convert.result) 0 c.args.fuel.now.left
    c.convert.new.fuel.left c.convert.ensures.converts
