use Rattle.hol_conv.proofs.Making.{still_made}
use Rattle.hol_conv.proofs.Meeting.{side-meets, refl-side}
use Rattle.hol_conv.proofs.Standing.{stands-later, from-refl-joins}
use Rattle.hol_conv.proofs.converted.from_same.Goals as goal

pub itself-requires-clause-made : goal.itself-requires-clause-made
itself-requires-clause-made c = c.requires.next.is_made

pub itself-requires-clause-stands : goal.itself-requires-clause-stands
itself-requires-clause-stands c = c.requires.next.stands (c.is_exact.ensures c.if-is_exact.true).said

pub returns-then-is_exact-clause-joins : goal.returns-then-is_exact-clause-joins
returns-then-is_exact-clause-joins c =
    from-refl-joins c.args.library.now.recorder.theory c.args.t.now c.args.next.now.theorem c.requires.known c.requires.roomy
    (c.itself.ensures.behind c.args.t.now (c.is_exact.ensures c.if-is_exact.true).unbound c.requires.equation)

pub trans_known-requires-clause-second : goal.trans_known-requires-clause-second
trans_known-requires-clause-second c = still_made c.args.library.now c.refl_known.new.library _ c.args.next.now c.in_ok-same.ensures.makes c.requires.next.is_made

pub trans_known-requires-clause-meets : goal.trans_known-requires-clause-meets
trans_known-requires-clause-meets c = side-meets (refl-side c.args.library.now.recorder.theory c.args.t.now c.in_ok-same.ensures.joins) c.requires.equation

pub returns-clause-stands : goal.returns-clause-stands
returns-clause-stands c = stands-later c.trans_known.result c.in_ok-same.ensures.makes.continued c.trans_known.ensures.stands
