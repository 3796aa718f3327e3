-- The tree finds the patterns that fit, and those alone are kept.
use Rattle.std.proofs.Common.{◌≡◌, List, rules, ◌∙◌, ap, filter}
use Rattle.hol_model.specs.Terms.NamedTerm.{NamedTerm}
use Rattle.hol_model.specs.Rewrites.Matching.{fits}
use Rattle.hol_net.specs.Tree.{steps_of, symbols_of, nodes_after, all_places}
use Rattle.hol_model.specs.Rewrites.Places.{places_where, passes}
use Rattle.hol_net.proofs.Holding.{candidates_are, places_wanted}
use Rattle.hol_net.proofs.net.Net.reached.Goals as goal

pub returns-clause-ok : goal.returns-clause-ok
returns-clause-ok c =
    let reached : c.add_nodes.new.found.items ≡ nodes_after (steps_of c.self.inside.tree) (symbols_of c.self.inside.tree) 0 c.args.term.now =
    rw c.new-nodes.ensures.items at c.in_ok-add_nodes.ensures.ok in
    let collected : c.add_places.new.found.items ≡ all_places c.self.inside.tree.ends.items c.add_nodes.new.found.items =
    rw (c.new-places.ensures.items, c.deref.ensures.value) at c.in_ok-add_places.ensures.ok in
    places_wanted c.fitting.result (filter (passes (λ (pattern : NamedTerm). fits pattern c.args.term.now) c.self.inside.patterns.items) c.dedup.new.self.items)
    (places_where (λ (pattern : NamedTerm). fits pattern c.args.term.now) c.args.self.now)
    (candidates_are c.self.inside.tree c.self.inside.patterns.items c.args.term.now c.add_nodes.new.found.items c.add_places.new.found.items
    c.sort_unstable.new.self.items c.dedup.new.self.items c.self.invariant reached collected c.sort_unstable.ensures.permutation c.sort_unstable.ensures.sorted c.dedup.ensures.filtered
    ∙ ap (λ (patterns : List NamedTerm). places_where (λ (pattern : NamedTerm). fits pattern c.args.term.now) patterns) (search rules))
    (rw (c.deref-2.ensures.value, c.deref-3.ensures.value) at c.fitting.ensures.ok)
