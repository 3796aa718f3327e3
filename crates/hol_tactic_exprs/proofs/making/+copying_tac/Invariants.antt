use Rattle.std.proofs.Common.{◌≡◌, map, take}
use Rattle.hol_tactic_exprs.specs.Expressions.{tactic_of, link_of}
use Rattle.hol_tactic_exprs.proofs.making.«+copying_tac».Given as goal

abbrev pub invariant-tac_copies-loop-tac : goal.invariant-tac_copies-loop-tac
invariant-tac_copies-loop-tac l = map tactic_of l.copies.items ≡ map tactic_of (take l.tac-index l.tacs)

abbrev pub invariant-link_copies-loop-link : goal.invariant-link_copies-loop-link
invariant-link_copies-loop-link l = map link_of l.copies.items ≡ map link_of (take l.link-index l.links)
