use Rattle.std.proofs.Common.{sym, inr, refl, length, arith}
use Rattle.std.proofs.lemmas.Bool.{ltb-true}
use Rattle.std.proofs.lemmas.Option.{slice_get_read}
use Rattle.hol_prelude_derivations.proofs.DerivationLemmas.{handed_out-copy, past_earlier}
use Rattle.hol_prelude_derivations.proofs.derivation.earlier_theorem.Goals as goal

pub returns-in-Some-clause-goes_on : goal.returns-in-Some-clause-goes_on
returns-in-Some-clause-goes_on c =
    handed_out-copy c.args.recorder.now c.copy.result c.in-Some.theorem.now
    (c.requires.each c.args.number c.in-Some.theorem.now
    (slice_get_read c.args.earlier.now (length c.args.earlier.now) c.args.number c.in-Some.theorem.now refl
    (ltb-true c.args.number (length c.args.earlier.now) (sym c.in-Some.ensures.lookup.0)) c.in-Some.ensures.lookup.1)) c.copy.ensures.ok

pub returns-in-None-clause-outcome : goal.returns-in-None-clause-outcome
returns-in-None-clause-outcome c = inr (past_earlier c.args.earlier.now c.args.number (grind (arith, c.in-None.ensures.lookup)))
