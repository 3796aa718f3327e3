-- The places by the node's place.
use Rattle.std.proofs.Common.{◌≡◌, ◌<◌, length, ◌∙◌}
use Rattle.hol_net.proofs.Growth.{places_read}
use Rattle.hol_net.proofs.Walks.{places_nowhere}
use Rattle.hol_net.proofs.tree.Tree.places_at.Goals as goal

pub returns-in-Some : goal.returns-in-Some
returns-in-Some c =
    let lookup = c.in-Some.ensures.lookup in
    let items : c.deref.result.now ≡ c.args.self.now.ends.items = c.deref.ensures.value in
    let within : c.args.node < length c.args.self.now.ends.items = rw items at lookup.3.0 in
    c.as_slice.ensures.value ∙ places_read c.args.self.now.ends.items c.args.node c.in-Some.places.now c.in-Some.places.now within (rw items at lookup.1)

pub returns-in-None : goal.returns-in-None
returns-in-None c =
    let lookup = c.in-None.ensures.lookup in
    let items : c.deref.result.now ≡ c.args.self.now.ends.items = c.deref.ensures.value in
    places_nowhere c.args.self.now.ends.items c.args.node (rw items at lookup.3)
