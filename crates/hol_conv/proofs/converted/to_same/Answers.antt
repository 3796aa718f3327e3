use Rattle.hol_conv.proofs.Making.{still_made}
use Rattle.hol_conv.proofs.Meeting.{side-meets, refl-equation}
use Rattle.hol_conv.proofs.Standing.{stands-later, to-refl-joins}
use Rattle.hol_conv.proofs.converted.to_same.Goals as goal

pub itself-requires-clause-made : goal.itself-requires-clause-made
itself-requires-clause-made c = c.requires.first.is_made

pub itself-requires-clause-stands : goal.itself-requires-clause-stands
itself-requires-clause-stands c = c.requires.first.stands c.if-stands_here.true

pub returns-then-stands_here-clause-joins : goal.returns-then-stands_here-clause-joins
returns-then-stands_here-clause-joins c =
    to-refl-joins c.args.library.now.recorder.theory c.args.first.now.theorem c.args.right.now c.requires.known c.requires.roomy (c.itself.ensures.in_front c.args.right.now c.requires.side)

pub trans_known-requires-clause-first : goal.trans_known-requires-clause-first
trans_known-requires-clause-first c = still_made c.args.library.now c.refl_known.new.library _ c.args.first.now c.in_ok-same.ensures.makes c.requires.first.is_made

pub trans_known-requires-clause-meets : goal.trans_known-requires-clause-meets
trans_known-requires-clause-meets c = side-meets c.requires.side (refl-equation c.args.library.now.recorder.theory c.args.right.now c.in_ok-same.ensures.joins)

pub returns-clause-stands : goal.returns-clause-stands
returns-clause-stands c = stands-later c.trans_known.result c.in_ok-same.ensures.makes.continued c.trans_known.ensures.stands
