use Rattle.std.proofs.Common.{inl}
use Rattle.hol_model.specs.declared.fault.Fault.TheVariants.{Memory}
use Rattle.hol_conv.proofs.Making.{makes_nothing}
use Rattle.hol_conv.proofs.Chaining.{starves, by-step}
use Rattle.hol_conv.proofs.chain.same.Goals as goal

pub returns-then-not-spend-clause-reflects : goal.returns-then-not-spend-clause-reflects
returns-then-not-spend-clause-reflects c = starves c.if-not-spend.ensures.none.0 c.if-not-spend.ensures.none.1

pub returns-clause-reflects : goal.returns-clause-reflects
returns-clause-reflects c = by-step c.if-not-spend.ensures.spent (inl (c.unchanged.ensures.outcome c.args.library.now.recorder.theory c.requires.known))

pub returns-clause-makes : goal.returns-clause-makes
returns-clause-makes c = record {
  library = c.requires.library;
  continued = (makes_nothing c.args.library.now Memory c.requires.library).continued;
  made = c.unchanged.ensures.answer c.args.library.now;
}
