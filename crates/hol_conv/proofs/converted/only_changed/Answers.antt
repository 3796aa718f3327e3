use Rattle.std.proofs.Common.{ap, sym, ◌∙◌, Ok}
use Rattle.hol_model.specs.Refining.Conversions.{if_changed}
use Rattle.hol_conv.specs.declared.converted.Converted.{Converted}
use Rattle.hol_conv.specs.Converted.{theorem_of}
use Rattle.hol_conv.proofs.Same.{same-refused, only-made}
use Rattle.hol_conv.proofs.converted.only_changed.Goals as goal

pub returns-in-Same-clause-changed : goal.returns-in-Same-clause-changed
returns-in-Same-clause-changed c theory =
    sym (ap (λ (answer : Converted). if_changed c.args.t.now (Ok (theorem_of theory c.args.t.now answer))) c.in-Same.is ∙ same-refused theory c.args.t.now)

pub returns-in-Changed-clause-same : goal.returns-in-Changed-clause-same
returns-in-Changed-clause-same c =
    only-made c.in-Changed.made c.in-Changed.stands_here c.args.answer c.if_changed.result c.as_answer.result c.as_answer.ensures.same c.if_changed.ensures.same c.in-Changed.is
