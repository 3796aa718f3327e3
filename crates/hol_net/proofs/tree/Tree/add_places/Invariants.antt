use Rattle.std.proofs.Common.{◌≡◌, ◌++◌, drop}
use Rattle.hol_net.specs.Tree.{all_places}
use Rattle.hol_net.proofs.tree.Tree.add_places.Given as goal

-- what was found, and the places at the nodes that are left
abbrev pub invariant-loop-node : goal.invariant-loop-node
invariant-loop-node l =
    l.found.items ++ all_places l.self.ends.items (drop l.node-index l.nodes) ≡ l.initial.found.items ++ all_places l.self.ends.items l.nodes
