use Rattle.std.proofs.Common.{◌≡◌, ◌<◌, ◌+◌, suc, [], ◌∷◌, ◌++◌, length, true, false, arith}
use Rattle.hol_model.specs.Terms.NamedTerm.{NamedTerm}
use Rattle.hol_model.specs.Rewrites.Matching.{fits}
use Rattle.hol_model.specs.Rewrites.Places.{passes}
use Rattle.hol_net.proofs.Ascending.{places_next, places_skip}
use Rattle.hol_net.proofs.net.tried.Goals as goal
use Rattle.hol_net.proofs.net.tried.Goals.{then-fits_at+in_ok-push, else-fits_at}

pub loop-place-preserved : goal.loop-place-preserved
loop-place-preserved c =
    let within : c.loop-place.place < length c.args.patterns.now = omega arith in
    let after : c.loop-place.place + 1 ≡ suc c.loop-place.place = omega arith in
    elim c.if-fits_at.branch [
      | then-fits_at+in_ok-push w ↦
          (let passed : passes (λ (pattern : NamedTerm). fits pattern c.args.term.now) c.args.patterns.now c.loop-place.place ≡ true = cc (w.if-fits_at.true, c.fits_at.ensures) in
          let pushed : c.if-fits_at.kept.items ≡ c.loop-place.kept.items ++ c.loop-place.place ∷ [] = cc (w.kept-is, w.in_ok-push.ensures.items) in
          places_next (λ (pattern : NamedTerm). fits pattern c.args.term.now) c.args.patterns.now c.loop-place.place (c.loop-place.place + 1) c.loop-place.kept.items c.if-fits_at.kept.items within
          after c.loop-place.invariant passed pushed)
      | else-fits_at w ↦
          (let passed : passes (λ (pattern : NamedTerm). fits pattern c.args.term.now) c.args.patterns.now c.loop-place.place ≡ false = cc (w.if-fits_at.false, c.fits_at.ensures) in
          rw w.kept-is
          (places_skip (λ (pattern : NamedTerm). fits pattern c.args.term.now) c.args.patterns.now c.loop-place.place (c.loop-place.place + 1) c.loop-place.kept.items within after
          c.loop-place.invariant passed))
    ]
