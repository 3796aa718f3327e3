use Rattle.std.proofs.Common.{arith}
use Rattle.hol_tactic_grammar.proofs.tactic_reader.chain_with.Goals as goal

pub returns-in-Ok : goal.returns-in-Ok
returns-in-Ok c = λ reader tokens has. (has c.add.new.items.items c.in-Ok.ensures, omega arith)
