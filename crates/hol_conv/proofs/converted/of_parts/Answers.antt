use Rattle.hol_model.specs.declared.fault.Fault.TheVariants.{Memory}
use Rattle.hol_conv.proofs.Making.{makes_nothing}
use Rattle.hol_conv.proofs.Standing.{said-so}
use Rattle.hol_conv.proofs.converted.of_parts.Goals as goal

pub returns-in-Same-second-clause-makes : goal.returns-in-Same-second-clause-makes
returns-in-Same-second-clause-makes c = record {
  library = c.requires.library;
  continued = (makes_nothing c.args.library.now Memory c.requires.library).continued;
  made = c.unchanged.ensures.answer c.args.library.now;
}

pub returns-in-Same-clause-makes : goal.returns-in-Same-clause-makes
returns-in-Same-clause-makes c = c.as_answer.ensures.made c.args.library.now c.ap_term.new.library c.args.t.now c.ap_term.ensures.makes (said-so _ c.ap_term.result c.ap_term.ensures.stands)

pub returns-in-Same-second-2-clause-makes : goal.returns-in-Same-second-2-clause-makes
returns-in-Same-second-2-clause-makes c =
    c.as_answer-in-Same-second-2.ensures.made c.args.library.now c.ap_thm.new.library c.args.t.now c.ap_thm.ensures.makes
    (said-so _ c.ap_thm.result c.ap_thm.ensures.stands)

pub returns-clause-makes : goal.returns-clause-makes
returns-clause-makes c =
    c.as_answer-in-Changed-second-2.ensures.made c.args.library.now c.mk_comb.new.library c.args.t.now c.mk_comb.ensures.makes
    (said-so _ c.mk_comb.result c.mk_comb.ensures.stands)
