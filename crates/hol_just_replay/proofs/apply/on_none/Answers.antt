use Rattle.std.proofs.Common.{refl}
use Rattle.hol_journal.specs.Journal.{theorem_in}
use Rattle.hol_just_replay.proofs.KernelRooms.{room-refl, room-beta}
use Rattle.hol_just_replay.proofs.DerivedRooms.{room-beta_conv}
use Rattle.hol_just_replay.proofs.apply.on_none.Goals as goal

pub returns-in-Refl-clause-inferred : goal.returns-in-Refl-clause-inferred
returns-in-Refl-clause-inferred c =
    rw c.in-Refl.is ((c.primitive_rules_infer.ensures c.args.recorder.now.theory c.theory_is_legal.ensures).refl c.in-Refl.t
    c.ty-type.result.now c.ty-type.ensures (theorem_in c.infer.result) c.infer.ensures.outcome)

pub returns-in-Refl-clause-room : goal.returns-in-Refl-clause-room
returns-in-Refl-clause-room c = rw c.in-Refl.is (room-refl c.ty-type.ensures c.infer.ensures.outcome)

pub returns-in-Beta-clause-inferred : goal.returns-in-Beta-clause-inferred
returns-in-Beta-clause-inferred c =
    rw c.in-Beta.is ((c.primitive_rules_infer.ensures c.args.recorder.now.theory c.theory_is_legal.ensures).beta c.in-Beta.t
    c.ty-type-in-Beta.result.now c.ty-type-in-Beta.ensures (theorem_in c.infer-in-Beta.result) c.infer-in-Beta.ensures.outcome)

pub returns-in-Beta-clause-room : goal.returns-in-Beta-clause-room
returns-in-Beta-clause-room c = rw c.in-Beta.is (room-beta c.theory_is_legal.ensures c.ty-type-in-Beta.ensures c.infer-in-Beta.ensures.outcome)

pub returns-in-Assume-clause-inferred : goal.returns-in-Assume-clause-inferred
returns-in-Assume-clause-inferred c =
    rw c.in-Assume.is ((c.primitive_rules_infer.ensures c.args.recorder.now.theory c.theory_is_legal.ensures).assume c.in-Assume.p
    c.ty-type-in-Assume.result.now c.ty-type-in-Assume.ensures (theorem_in c.infer-in-Assume.result) c.infer-in-Assume.ensures.outcome)

pub returns-in-BetaConv-clause-room : goal.returns-in-BetaConv-clause-room
returns-in-BetaConv-clause-room c = rw c.in-BetaConv.is (room-beta_conv c.ty-type-in-BetaConv.ensures c.beta_conv.ensures.outcome)
