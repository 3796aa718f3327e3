use Rattle.std.proofs.Common.{◌≡◌, ◌++◌, drop}
use Rattle.hol_model.specs.Rewrites.Matching.{fits}
use Rattle.hol_model.specs.Rewrites.Places.{places_from, places_where}
use Rattle.hol_net.proofs.net.tried.Given as goal

-- what was kept, and what is left to be kept
abbrev pub invariant-loop-place : goal.invariant-loop-place
invariant-loop-place l =
    l.kept.items ++ places_from l.place (λ pattern. fits pattern l.term) (drop l.place l.patterns)
    ≡ places_where (λ pattern. fits pattern l.term) l.patterns
