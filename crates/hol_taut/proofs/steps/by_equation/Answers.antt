use Rattle.std.proofs.Common.{◌++◌}
use Rattle.hol_model.specs.Derived.DerivedRules.{images}
use Rattle.hol_model.specs.Propositional.Connectives.{equation_of}
use Rattle.hol_taut.proofs.ProvedLemmas.{proves-shows, gives-proves, both-among}
use Rattle.hol_taut.proofs.steps.by_equation.Goals as goal

pub returns-clause-proves : goal.returns-clause-proves
returns-clause-proves c allowed p q room one two =
    let first = c.args.first.now.theorem in
    let second = c.args.second.now.theorem in
    gives-proves room c.eq_mp_known.result (images first ++ images second) allowed q (both-among first second allowed (equation_of p q) p one two)
    (c.eq_mp_known.ensures.gives (images first) (images second) p q (proves-shows first allowed (equation_of p q) one) (proves-shows second allowed p two))

pub eq_mp_known-requires-clause-fits : goal.eq_mp_known-requires-clause-fits
eq_mp_known-requires-clause-fits c = record { right = c.requires.fits.right; first_is = c.requires.fits.first_is }
