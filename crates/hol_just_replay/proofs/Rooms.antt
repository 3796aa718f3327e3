-- What finds room, by the number of premises.
use Rattle.hol_just_replay.proofs.KernelRooms.{room-assume, room-trans, room-mk_comb, room-eq_mp, room-deduct_antisym, room-abs, room-refused}
use Rattle.hol_just_replay.proofs.InstanceRooms.{room-inst, room-inst_type}
use Rattle.hol_just_replay.proofs.DerivedRooms.{derived_of_one, derived_of_two, derived_of_three}
use Rattle.hol_just_replay.proofs.QuantifierRooms.{room-gen, room-choose}

pub ruleset rooms_of_none = (room-assume, room-refused)

pub ruleset rooms_of_one = (room-abs, room-inst, room-inst_type, derived_of_one, room-gen, room-refused)

pub ruleset rooms_of_two = (room-trans, room-mk_comb, room-eq_mp, room-deduct_antisym, derived_of_two, room-choose, room-refused)

pub ruleset rooms_of_three = (derived_of_three, room-refused)
