use Rattle.std.proofs.Common.{ap, subst}
use Rattle.hol_check_written.specs.Making.{binders_in, AreBinders}
use Rattle.hol_check_written.proofs.ApartLemmas.{index-here, index-deeper, index-none}
use Rattle.hol_check_written.proofs.making.«+index_of».Goals as goal

pub returns-then-other-number-clause-index : goal.returns-then-other-number-clause-index
returns-then-other-number-clause-index t c =
    index-here c.args.terms.now.terms (binders_in c.args.terms.now.terms c.args.binders.now) (binders_in c.args.terms.now.terms c.in-Under.outer.now) c.in-Under.other c.args.number
    (ap (binders_in c.args.terms.now.terms) c.in-Under.is) c.have_one_number.ensures.terms (subst (AreBinders c.args.terms.now.terms) c.in-Under.is c.requires.binders).0 c.requires.number
    c.if-other-number.true

pub returns-in-Some-clause-index : goal.returns-in-Some-clause-index
returns-in-Some-clause-index t c =
    index-deeper c.args.terms.now.terms (binders_in c.args.terms.now.terms c.args.binders.now) (binders_in c.args.terms.now.terms c.in-Under.outer.now) c.in-Under.other c.args.number
    (ap (binders_in c.args.terms.now.terms) c.in-Under.is) c.have_one_number.ensures.terms (subst (AreBinders c.args.terms.now.terms) c.in-Under.is c.requires.binders).0 c.requires.number
    c.in-Some.index c.if-other-number.false c.in-Some.ensures.index

pub returns-in-None-clause-index : goal.returns-in-None-clause-index
returns-in-None-clause-index t c =
    index-none c.args.terms.now.terms (binders_in c.args.terms.now.terms c.args.binders.now) (binders_in c.args.terms.now.terms c.in-Under.outer.now) c.in-Under.other c.args.number
    (ap (binders_in c.args.terms.now.terms) c.in-Under.is) c.have_one_number.ensures.terms (subst (AreBinders c.args.terms.now.terms) c.in-Under.is c.requires.binders).0 c.requires.number
    c.if-other-number.false c.in-None.ensures.index
