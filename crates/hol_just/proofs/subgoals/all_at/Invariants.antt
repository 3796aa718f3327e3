use Rattle.std.proofs.Common.{◌≡◌, drop}
use Rattle.hol_just.specs.Subgoals.{all_cited}
use Rattle.hol_just.proofs.subgoals.all_at.Given as goal

abbrev pub invariant-loop-place : goal.invariant-loop-place
invariant-loop-place l = all_cited l.answers (drop l.place-index l.places) ≡ all_cited l.answers l.places
