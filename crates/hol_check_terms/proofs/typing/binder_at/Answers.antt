use Rattle.std.proofs.Common.{refl}
use Rattle.std.proofs.lemmas.Option.{slice_get_read}
use Rattle.hol_check_terms.proofs.TypingLemmas.{binder-found, no-binder}
use Rattle.hol_check_terms.proofs.typing.binder_at.Goals as goal

pub returns-in-Some-clause-number : goal.returns-in-Some-clause-number
returns-in-Some-clause-number c = binder-found c.args.terms.now.types c.args.binders.now c.args.index c.in-Some.ty.now c.requires
    (slice_get_read _ _ _ _ refl c.in-Some.ensures.lookup.3.0 c.in-Some.ensures.lookup.1)

pub returns-in-None-clause-number : goal.returns-in-None-clause-number
returns-in-None-clause-number c = rw (no-binder c.args.terms.now.types c.args.binders.now c.args.index c.in-None.ensures.lookup.3) c.boolean.ensures.number
