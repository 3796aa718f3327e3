use Rattle.std.proofs.Common.{◌∷◌, ◌++◌}
use Rattle.hol_model.specs.Logic.Derivable.{without}
use Rattle.hol_model.specs.Derived.DerivedRules.{images}
use Rattle.hol_model.specs.Propositional.Connectives.{equation_of}
use Rattle.hol_taut.proofs.ProvedLemmas.{proves-shows, derives-fitting, lefts-among}
use Rattle.hol_taut.proofs.steps.by_both.Goals as goal

pub returns-clause-proves : goal.returns-clause-proves
returns-clause-proves c allowed p q room fits one two =
    let first = c.args.first.now.theorem in
    let second = c.args.second.now.theorem in
    derives-fitting room c.deduct_antisym.result (without q (images first) ++ without p (images second)) allowed (equation_of p q) fits
    (lefts-among p q (images first) (images second) allowed one.within two.within)
    (c.deduct_antisym.ensures.derives (images first) (images second) p q (proves-shows first (q ∷ allowed) p one) (proves-shows second (p ∷ allowed) q two))
