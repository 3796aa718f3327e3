use Rattle.std.proofs.Common.{◌≡◌, ◌++◌, drop}
use Rattle.std.specs.Prelude.{filter}
use Rattle.hol_model.specs.Rewrites.Matching.{fits}
use Rattle.hol_model.specs.Rewrites.Places.{passes}
use Rattle.hol_net.proofs.net.fitting.Given as goal

-- what was kept, and what is left to be kept
abbrev pub invariant-loop-place : goal.invariant-loop-place
invariant-loop-place l =
    l.kept.items ++ filter (passes (λ pattern. fits pattern l.term) l.patterns) (drop l.place-index l.places)
    ≡ filter (passes (λ pattern. fits pattern l.term) l.patterns) l.places
