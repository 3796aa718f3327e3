use Rattle.std.proofs.Common.{◌≡◌}
use Rattle.holp_commands.proofs.console.Console.read_more.Given as goal

abbrev pub invariant-loop : goal.invariant-loop
invariant-loop g l = l.self.failed ≡ l.fn.self.failed
