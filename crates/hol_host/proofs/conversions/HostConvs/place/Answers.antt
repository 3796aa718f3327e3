use Rattle.std.proofs.Common.{string_bytes, arith, below_more, sym, ◌∙◌}
use Rattle.hol_host.proofs.Listed.{map-at}
use Rattle.hol_host.proofs.conversions.HostConvs.place.Goals as goal

pub returns-then-is_same-clause-found : goal.returns-then-is_same-clause-found
returns-then-is_same-clause-found g c =
    let here = map-at (λ r. string_bytes r.name) c.args.self.now.conversions.items _ c.loop-i.i c.conversion-item.result c.deref-conversion-items.ensures.value (omega arith) c.conversion-item.is in
    (here.within, here.there _ ∙ sym c.as_str.ensures.value ∙ c.if-is_same.ensures.same)

pub loop-i-preserved : goal.loop-i-preserved
loop-i-preserved g c =
    let here = map-at (λ r. string_bytes r.name) c.args.self.now.conversions.items _ c.loop-i.i c.conversion-item.result c.deref-conversion-items.ensures.value (omega arith) c.conversion-item.is in
    below_more _ _ c.loop-i.invariant (λ e. c.if-is_same.ensures.other (c.as_str.ensures.value ∙ sym (here.there _) ∙ e))
