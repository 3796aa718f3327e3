use Rattle.std.proofs.Common.{◌≡◌, ap, ◌∙◌, subst, true, Result, Ok, IfOk}
use Rattle.hol_model.specs.declared.fault.Fault.{Fault}
use Rattle.hol_model.specs.Terms.NamedTerm.{equation, is_within_limits}
use Rattle.hol_conv.specs.declared.converted.Converted.{Converted}
use Rattle.hol_conv.specs.Converted.{IsAnswerOf}
use Rattle.hol_conv.proofs.Standing.{said-so}
use Rattle.hol_conv.proofs.Same.{then-unchanged}
use Rattle.hol_conv.proofs.Meeting.{side-meets, side-as, equation-as, equation-of-same}
use Rattle.hol_conv.proofs.converted.then.Goals as goal

pub returns-in-Same-next-clause-joins : goal.returns-in-Same-next-clause-joins
returns-in-Same-next-clause-joins c =
    let fits : is_within_limits (equation c.args.t.now c.args.t.now) ≡ true = subst (λ (first : Converted). IsAnswerOf c.args.library.now c.args.t.now first) c.in-Same.is c.requires.first in
    then-unchanged c.args.library.now.recorder.theory c.args.t.now c.args.right.now c.args.first.now c.args.next c.in-Same.is (c.in_ok-next.was ∙ ap Ok c.in-Same-next.is) c.requires.side fits

pub returns-in-Changed-next-clause-makes : goal.returns-in-Changed-next-clause-makes
returns-in-Changed-next-clause-makes c =
    c.as_answer.ensures.made c.args.library.now c.from_same.new.library c.args.t.now c.from_same.ensures.makes
    (said-so _ c.from_same.result c.from_same.ensures.stands)

pub returns-in-Same-next-2-clause-makes : goal.returns-in-Same-next-2-clause-makes
returns-in-Same-next-2-clause-makes c =
    c.as_answer-in-Same-next-2.ensures.made c.args.library.now c.to_same.new.library c.args.t.now c.to_same.ensures.makes
    (said-so _ c.to_same.result c.to_same.ensures.stands)

pub returns-in-Changed-next-2-clause-makes : goal.returns-in-Changed-next-2-clause-makes
returns-in-Changed-next-2-clause-makes c =
    c.as_answer-in-Changed-next-2.ensures.made c.args.library.now c.trans_known.new.library c.args.t.now c.trans_known.ensures.makes
    (said-so _ c.trans_known.result c.trans_known.ensures.stands)

pub from_same-requires-clause-equation : goal.from_same-requires-clause-equation
from_same-requires-clause-equation c =
    let theory = c.args.library.now.recorder.theory in
    equation-of-same theory c.args.t.now c.args.right.now c.in-Changed-next.next.theorem (side-as theory c.args.t.now c.args.right.now c.args.first.now _ c.in-Same.is c.requires.side)
    (equation-as theory c.args.right.now c.args.next _ (c.in_ok-next.was ∙ ap Ok c.in-Changed-next.is) c.requires.equation)

pub to_same-requires-clause-side : goal.to_same-requires-clause-side
to_same-requires-clause-side c = side-as c.args.library.now.recorder.theory c.args.t.now c.args.right.now c.args.first.now _ c.in-Changed.is c.requires.side

pub trans_known-requires-clause-meets : goal.trans_known-requires-clause-meets
trans_known-requires-clause-meets c =
    let theory = c.args.library.now.recorder.theory in
    side-meets (side-as theory c.args.t.now c.args.right.now c.args.first.now _ c.in-Changed.is c.requires.side)
    (equation-as theory c.args.right.now c.args.next _ (c.in_ok-next.was ∙ ap Ok c.in-Changed-next-2.is) c.requires.equation)

pub to_same-requires-clause-first : goal.to_same-requires-clause-first
to_same-requires-clause-first c = subst (λ (first : Converted). IsAnswerOf c.args.library.now c.args.t.now first) c.in-Changed.is c.requires.first

pub to_same-requires-clause-roomy : goal.to_same-requires-clause-roomy
to_same-requires-clause-roomy c =
    subst (λ (next : Result Converted Fault). IfOk next (IsAnswerOf c.args.library.now c.args.right.now)) (c.in_ok-next.was ∙ ap Ok c.in-Same-next-2.is) c.requires.next

pub from_same-requires-clause-next : goal.from_same-requires-clause-next
from_same-requires-clause-next c =
    subst (λ (next : Result Converted Fault). IfOk next (IsAnswerOf c.args.library.now c.args.right.now)) (c.in_ok-next.was ∙ ap Ok c.in-Changed-next.is) c.requires.next

pub from_same-requires-clause-roomy : goal.from_same-requires-clause-roomy
from_same-requires-clause-roomy c = subst (λ (first : Converted). IsAnswerOf c.args.library.now c.args.t.now first) c.in-Same.is c.requires.first
