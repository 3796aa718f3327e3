-- The tree leads to the patterns that it led to, and to the new one.
use Rattle.std.proofs.Common.{◌≡◌, [], ◌∷◌, ◌++◌, length, rules, ◌∙◌, ap}
use Rattle.hol_model.specs.Terms.NamedTerm.{NamedTerm}
use Rattle.hol_model.specs.Logic.Derivable.{IsMember}
use Rattle.hol_net.specs.Tree.{places_at}
use Rattle.hol_net.proofs.Growth.{grows_then, node_grows, node_within}
use Rattle.hol_net.proofs.Holding.{net_grows, net_more}
use Rattle.hol_net.proofs.net.Net.insert.Goals as goal

pub invariant_of-self : goal.invariant_of-self
invariant_of-self c = net_grows c.self.inside.tree c.node_or_new.new.self c.self.inside.patterns.items c.self.invariant c.node_or_new.ensures.grows c.node_or_new.ensures.tree

pub note-requires-clause-within : goal.note-requires-clause-within
note-requires-clause-within c = node_within c.node_or_new.new.self c.node_or_new.ensures.tree 0 c.args.pattern.now c.in_ok-node.node c.in_ok-node.ensures.leads

pub invariant_of-self-in_err-note : goal.invariant_of-self-in_err-note
invariant_of-self-in_err-note c =
    net_grows c.self.inside.tree c.note.new.self c.self.inside.patterns.items c.self.invariant (grows_then c.node_or_new.ensures.grows c.note.ensures.grows) c.note.ensures.tree

pub invariant_of-self-in_err-copy : goal.invariant_of-self-in_err-copy
invariant_of-self-in_err-copy c =
    net_grows c.self.inside.tree c.note.new.self c.self.inside.patterns.items c.self.invariant (grows_then c.node_or_new.ensures.grows c.note.ensures.grows) c.note.ensures.tree

pub invariant_of-self-in_err-push : goal.invariant_of-self-in_err-push
invariant_of-self-in_err-push c =
    let same : c.push.new.self.items ≡ c.self.inside.patterns.items = c.in_err-push.ensures.items in
    rw same (net_grows c.self.inside.tree c.note.new.self c.self.inside.patterns.items c.self.invariant (grows_then c.node_or_new.ensures.grows c.note.ensures.grows) c.note.ensures.tree)

pub invariant_of-self-2 : goal.invariant_of-self-2
invariant_of-self-2 c =
    let more : c.push.new.self.items ≡ c.self.inside.patterns.items ++ c.args.pattern.now ∷ [] =
    c.in_ok-push.ensures.items ∙ ap (λ (t : NamedTerm). c.self.inside.patterns.items ++ t ∷ []) c.in_ok-copy.ensures.ok in
    let noted : IsMember (length c.self.inside.patterns.items) (places_at c.note.new.self.ends.items c.in_ok-node.node) =
    let place : c.len-place.result ≡ length c.self.inside.patterns.items = search rules in
    rw place at c.in_ok-note.ensures.noted in
    rw more (net_more c.self.inside.tree c.note.new.self c.self.inside.patterns.items c.args.pattern.now c.in_ok-node.node c.self.invariant
    (grows_then c.node_or_new.ensures.grows c.note.ensures.grows) c.note.ensures.tree
    (node_grows c.node_or_new.new.self c.note.new.self c.note.ensures.grows 0 c.args.pattern.now c.in_ok-node.node c.in_ok-node.ensures.leads) noted)
