use Rattle.std.proofs.Common.{◌≡◌, ◌++◌, drop}
use Rattle.std.specs.List.{flat_map}
use Rattle.hol_net.specs.Tree.{nodes_after, steps_of, symbols_of}
use Rattle.hol_net.proofs.tree.Tree.+add_nodes.Given as goal

-- what was found, and what the nodes in the middle that are left lead to
abbrev pub invariant-loop-next : goal.invariant-loop-next
invariant-loop-next l =
    l.found.items ++ flat_map (λ next. nodes_after (steps_of l.self) (symbols_of l.self) next l.argument) (drop l.next-index l.next-items)
    ≡ l.initial.found.items ++ flat_map (λ next. nodes_after (steps_of l.self) (symbols_of l.self) next l.argument) l.next-items
