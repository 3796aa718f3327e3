use Rattle.std.proofs.Common.{ap, ◌∙◌, Ok}
use Rattle.hol_model.specs.declared.fault.Fault.TheVariants.{Memory}
use Rattle.hol_conv.proofs.Making.{makes_nothing}
use Rattle.hol_conv.proofs.Standing.{said-so}
use Rattle.hol_conv.proofs.Same.{body-unchanged}
use Rattle.hol_conv.proofs.converted.of_body.Goals as goal

pub returns-in-Ok-Same-clause-joins : goal.returns-in-Ok-Same-clause-joins
returns-in-Ok-Same-clause-joins c name ty body bound is =
    let theory = c.args.library.now.recorder.theory in
    body-unchanged theory c.args.t.now name ty body c.args.part c.unchanged.result (c.in-Ok-Same.is ∙ ap Ok c.in-Ok-Same.field-0-is) is c.requires.known
    (c.unchanged.ensures.outcome theory c.requires.known)

pub returns-in-Ok-Same-clause-makes : goal.returns-in-Ok-Same-clause-makes
returns-in-Ok-Same-clause-makes c = record {
  library = c.requires.library;
  continued = (makes_nothing c.args.library.now Memory c.requires.library).continued;
  made = c.unchanged.ensures.answer c.args.library.now;
}

pub returns-in-Ok-Changed-clause-makes : goal.returns-in-Ok-Changed-clause-makes
returns-in-Ok-Changed-clause-makes c = c.as_answer.ensures.made c.args.library.now c.abs.new.library c.args.t.now c.abs.ensures.makes (said-so _ c.abs.result c.abs.ensures.stands)
