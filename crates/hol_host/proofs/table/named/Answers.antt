use Rattle.std.proofs.Common.{rules, ◌≡◌, below_more, refl, sym, ◌∙◌}
use Rattle.hol_host.proofs.Listed.{map-at}
use Rattle.hol_host.proofs.table.named.Goals as goal

pub returns-then-eq : goal.returns-then-eq
returns-then-eq g c =
    let here = map-at (λ entry. entry.0.now) c.args.table.now c.args.table.now c.loop-entry.entry-index c.entry-item.result refl (search rules) c.entry-item.is in
    let same : c.entry-item.result.0.now ≡ c.args.name.now = search rules in
    (λ some. (c.loop-entry.entry-index, here.within, here.there _ ∙ same), λ listed. refl)

pub loop-entry-preserved : goal.loop-entry-preserved
loop-entry-preserved g c =
    let here = map-at (λ entry. entry.0.now) c.args.table.now c.args.table.now c.loop-entry.entry-index c.entry-item.result refl (search rules) c.entry-item.is in
    let other : c.entry-item.result.0.now ≡ c.args.name.now → ⊥ = search rules in
    below_more _ _ c.loop-entry.invariant (λ e. other (sym (here.there _) ∙ e))
