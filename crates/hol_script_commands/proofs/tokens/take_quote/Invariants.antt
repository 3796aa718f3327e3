use Rattle.std.proofs.Common.{◌≡◌, ℕ, ◌<◌, ◌≤◌, ◌-◌, false, length}
use Rattle.hol_script_commands.proofs.ReadingLemmas.{is_quote_at}
use Rattle.hol_script_commands.proofs.tokens.take_quote.Given as goal

abbrev pub invariant-loop-at : goal.invariant-loop-at
invariant-loop-at l = (l.at ≤ length l.inner) × ((before : ℕ) → before < l.at → is_quote_at l.inner before ≡ false)

abbrev pub decreases-loop-at : goal.decreases-loop-at
decreases-loop-at l = length l.inner - l.at
