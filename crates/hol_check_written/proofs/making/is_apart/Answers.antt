use Rattle.hol_check_written.proofs.ApartLemmas.{apart}
use Rattle.hol_check_written.proofs.making.is_apart.Goals as goal

pub returns : goal.returns
returns c = λ known. apart c.args.terms.now.terms c.args.binders.now c.covered.result c.args.part c.have_one_number.ensures.terms c.requires
    (c.covered.ensures c.args.terms.now.terms c.requires) (c.are_apart.ensures known)
