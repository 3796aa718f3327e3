use Rattle.hol_syntax.proofs.Unambiguous.{terms_are_unambiguous}
use Rattle.hol_syntax.proofs.terms.terms_are_unambiguous.Goals as goal

pub returns : goal.returns
returns c = terms_are_unambiguous
