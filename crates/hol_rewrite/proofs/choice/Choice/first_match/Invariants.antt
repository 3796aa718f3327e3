use Rattle.std.proofs.Common.{ℕ, take}
use Rattle.hol_model.specs.Logic.Derivable.{IsMember}
use Rattle.hol_model.specs.Rewrites.Choice.{DoesNotMatch}
use Rattle.hol_rewrite.proofs.choice.Choice.first_match.Given as goal

-- no place that was tried matches
abbrev pub invariant-loop-place : goal.invariant-loop-place
invariant-loop-place l = (n : ℕ) → IsMember n (take l.place-index l.place-items) → DoesNotMatch l.self l.term n
