use Rattle.std.proofs.Common.{◌≡◌, ℕ, ◌<◌, slice_index_or}
use Rattle.hol_host.specs.Stored.{conversion_names}
use Rattle.hol_host.proofs.conversions.HostConvs.place.Given as goal

abbrev pub invariant-loop-i : goal.invariant-loop-i
invariant-loop-i g l = (k : ℕ) → k < l.i → slice_index_or (conversion_names l.self) k l.name ≡ l.name → ⊥
