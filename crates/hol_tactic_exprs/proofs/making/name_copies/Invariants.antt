use Rattle.std.proofs.Common.{◌≡◌, map, take, string_bytes}
use Rattle.hol_tactic_exprs.proofs.making.name_copies.Given as goal

abbrev pub invariant-loop-name : goal.invariant-loop-name
invariant-loop-name l = map string_bytes l.copies.items ≡ map string_bytes (take l.name-index l.names)
