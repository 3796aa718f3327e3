-- Room for one more entry.
use Rattle.std.proofs.Common.{◌≡◌, ℕ, ◌+◌, ◌<◌, ◌^◌, Bool, true, false, ◌&&◌, refl, subst, Option, Some}
use Rattle.std.specs.Prelude.{vec_len, vec_capacity}
use Rattle.std.proofs.lemmas.Bool.{ltb-true, lt-ltb}
use Rattle.std.specs.Cmp.Derive.{both_true}
use Rattle.hol_journal.specs.KeptViews.{room_in, has_room}
use Rattle.hol_journal.specs.declared.kept.KeptEntries.TheInside as kept

both : (a b : Bool) → (a && b) ≡ true → (a ≡ true) × (b ≡ true)
both true b e = (refl, e)
both false b e = absurd (cc)

pub room-count : (inside : kept.Inside) → has_room inside ≡ true → inside.count + 1 < 2 ^ 64
room-count inside room = ltb-true _ _ (both _ _ room).0

pub room-kept : (inside : kept.Inside) → has_room inside ≡ true → room_in inside.kept ≡ true
room-kept inside room = (both _ _ room).1

pub room-made : (inside : kept.Inside) → inside.count + 1 < 2 ^ 64 → room_in inside.kept ≡ true → has_room inside ≡ true
room-made inside fits room = both_true (lt-ltb _ _ fits) room
