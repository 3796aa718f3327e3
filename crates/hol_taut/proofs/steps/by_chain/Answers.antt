use Rattle.std.proofs.Common.{◌++◌}
use Rattle.hol_model.specs.Terms.HolType.{bool_type}
use Rattle.hol_model.specs.Derived.DerivedRules.{images}
use Rattle.hol_model.specs.Propositional.Connectives.{equation_of}
use Rattle.hol_taut.proofs.ProvedLemmas.{proves-shows, derives-fitting, both-among}
use Rattle.hol_taut.proofs.steps.by_chain.Goals as goal

pub returns-clause-proves : goal.returns-clause-proves
returns-clause-proves c allowed p q r room fits one two =
    let first = c.args.first.now.theorem in
    let second = c.args.second.now.theorem in
    derives-fitting room c.trans_known.result (images first ++ images second) allowed (equation_of p r) fits (both-among first second allowed (equation_of p q) (equation_of q r) one two)
    (c.trans_known.ensures.derives (images first) (images second) bool_type p q r (proves-shows first allowed (equation_of p q) one) (proves-shows second allowed (equation_of q r) two))

pub trans_known-requires-clause-fits : goal.trans_known-requires-clause-fits
trans_known-requires-clause-fits c =
    let fits = c.requires.fits in
    record { ty = bool_type; left = fits.left; middle = fits.middle; right = fits.right; first_is = fits.first_is; second_is = fits.second_is }
