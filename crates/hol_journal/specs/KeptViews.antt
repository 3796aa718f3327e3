-- What the fields of the entries of a recorder stand for.
use Rattle.std.specs.Prelude.{◌≡◌, ◌+◌, ◌^◌, Bool, true, ◌&&◌, nat_lt, length, Option, Some, None, IfSome, vec_len, vec_capacity}
use Rattle.std.proofs.Common.{Vec, Global}
use Rattle.hol_journal.specs.Kept.{Held}
use Rattle.hol_journal.specs.Stored.{AreKept}
use Rattle.hol_journal.specs.declared.kept.Numbered.{Numbered}
use Rattle.hol_journal.specs.declared.kept.KeptEntries.TheInside as kept

-- room for one more of those that are kept
abbrev pub room_in : Option (Vec Numbered Global) → Bool
room_in None = true
room_in (Some kept) = nat_lt (vec_len kept) (vec_capacity kept)

abbrev pub has_room : kept.Inside → Bool
has_room inside = nat_lt (inside.count + 1) (2 ^ 64) && room_in inside.kept

abbrev pub viewed_entries : kept.Inside → Held
viewed_entries inside = record { entries = inside.trail.entries; has_room = has_room inside }

-- the entries are counted, and those that are kept are entries of their numbers
pub record IsKept (inside : kept.Inside) : Type 0 where
  pub counted : inside.count ≡ length inside.trail.entries
  pub kept : IfSome inside.kept (λ items. AreKept 0 inside.trail.entries items.items)
