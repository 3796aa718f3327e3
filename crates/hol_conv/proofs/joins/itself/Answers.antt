use Rattle.std.proofs.Common.{subst}
use Rattle.hol_model.specs.Kernel.Theorem.{Theorem, IsWellFormed}
use Rattle.hol_conv.proofs.Standing.{copied-makes, copied-stands, copied-as, nothing-added, nothing-added-before}
use Rattle.hol_conv.proofs.joins.itself.Goals as goal

pub returns-clause-makes : goal.returns-clause-makes
returns-clause-makes c = copied-makes c.copy.result c.args.made.now c.requires.library c.requires.made c.copy.ensures.ok

pub returns-clause-stands : goal.returns-clause-stands
returns-clause-stands c = copied-stands c.copy.result c.args.made.now c.requires.stands c.copy.ensures.ok

pub returns-clause-in_front : goal.returns-clause-in_front
returns-clause-in_front c right side =
    let known = c.conclusion_of-conclusion.ensures in
    let well = subst (λ (theorem : Theorem). IsWellFormed theorem) c.thm.ensures c.well_formed-2.ensures in
    copied-as c.args.made.now c.copy.result
    (nothing-added c.args.library.now.recorder.theory known.legal c.args.made.now.theorem right known.formula well c.requires.stands side) c.copy.ensures.ok c.copy.ensures.err

pub returns-clause-behind : goal.returns-clause-behind
returns-clause-behind c t unbound of =
    let known = c.conclusion_of-conclusion.ensures in
    let well = subst (λ (theorem : Theorem). IsWellFormed theorem) c.thm.ensures c.well_formed-2.ensures in
    copied-as c.args.made.now c.copy.result
    (nothing-added-before c.args.library.now.recorder.theory known.legal t c.args.made.now.theorem known.formula well c.requires.stands unbound of) c.copy.ensures.ok c.copy.ensures.err
