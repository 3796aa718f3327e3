use Rattle.std.proofs.Common.{◌≡◌, ℕ, ◌<◌, map, slice_index_or}
use Rattle.hol_host.proofs.table.named.Given as goal

abbrev pub invariant-loop-entry : goal.invariant-loop-entry
invariant-loop-entry g l = (k : ℕ) → k < l.entry-index → slice_index_or (map (λ entry. entry.0.now) l.table) k l.name ≡ l.name → ⊥
