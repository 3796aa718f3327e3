-- The places that the net finds are tried in order, and others do not match.
use Rattle.std.proofs.Common.{◌≡◌, inr, ◌<◌, ◌≤◌, Some, None, length, rules, get_or, arith, refl, ◌∙◌, ap, subst, Option}
use Rattle.std.proofs.lemmas.List.{take_all}
use Rattle.hol_model.specs.Terms.NamedTerm.{NamedTerm}
use Rattle.hol_model.specs.Rewrites.Matching.{fits}
use Rattle.hol_match.specs.declared.matching.Match.{Match}
use Rattle.hol_model.specs.Rewrites.Places.{places_where}
use Rattle.hol_model.specs.Rewrites.Choice.{patterns_of}
use Rattle.hol_rewrite.specs.Sides.{viewed_sides, IsTried}
use Rattle.hol_rewrite.proofs.Trying.{earlier_fails, all_fail, tried_more}
use Rattle.hol_rewrite.proofs.choice.Choice.first_match.Goals as goal

pub returns-in-Some-clause-ok : goal.returns-in-Some-clause-ok
returns-in-Some-clause-ok c =
    let viewed : viewed_sides c.deref.result.now ≡ c.args.self.now = ap viewed_sides c.deref.ensures.value ∙ search rules in
    let patterns : c.self.inside.net ≡ patterns_of c.args.self.now = c.self.invariant ∙ ap patterns_of (search rules) in
    let found : c.deref-place-items.result.now ≡ places_where (λ (pattern : NamedTerm). fits pattern c.args.term.now) (patterns_of c.args.self.now) =
    c.deref-place-items.ensures.value ∙ (c.in_ok-places.ensures.ok ∙ ap (places_where (λ (pattern : NamedTerm). fits pattern c.args.term.now)) patterns) in
    let place = get_or c.deref-place-items.result.now c.loop-place.place-index 0 in
    let within : c.loop-place.place-index < length c.deref-place-items.result.now = omega arith in
    let tried : IsTried c.args.self.now c.args.term.now place (Some c.in-Some.found) =
    subst (λ (o : Option Match). IsTried c.args.self.now c.args.term.now place o) c.in-Some.is (rw viewed at c.in_ok-found.ensures.ok) in
    record {
      side = tried.side;
      is_at_place = tried.is_at_place;
      matches = tried.matches;
      is_first = λ earlier below. earlier_fails c.args.self.now c.args.term.now c.deref-place-items.result.now c.loop-place.place-index place earlier found within refl
          c.loop-place.invariant below;
    }

pub loop-place-preserved : goal.loop-place-preserved
loop-place-preserved c =
    let viewed : viewed_sides c.deref.result.now ≡ c.args.self.now = ap viewed_sides c.deref.ensures.value ∙ search rules in
    let place = get_or c.deref-place-items.result.now c.loop-place.place-index 0 in
    let within : c.loop-place.place-index < length c.deref-place-items.result.now = omega arith in
    let tried : IsTried c.args.self.now c.args.term.now place None =
    subst (λ (o : Option Match). IsTried c.args.self.now c.args.term.now place o) c.in-None.is (rw viewed at c.in_ok-found.ensures.ok) in
    tried_more c.args.self.now c.args.term.now c.deref-place-items.result.now c.loop-place.place-index place within refl c.loop-place.invariant tried

pub returns-clause-err : goal.returns-clause-err
returns-clause-err c =
    let patterns : c.self.inside.net ≡ patterns_of c.args.self.now = c.self.invariant ∙ ap patterns_of (search rules) in
    let found : c.deref-place-items.result.now ≡ places_where (λ (pattern : NamedTerm). fits pattern c.args.term.now) (patterns_of c.args.self.now) =
    c.deref-place-items.ensures.value ∙ (c.in_ok-places.ensures.ok ∙ ap (places_where (λ (pattern : NamedTerm). fits pattern c.args.term.now)) patterns) in
    let past : length c.deref-place-items.result.now ≤ c.loop-place.place-index = omega arith in
    let all = take_all c.loop-place.place-index c.deref-place-items.result.now past in
    inr (
      refl,
      all_fail c.args.self.now c.args.term.now c.deref-place-items.result.now found
          (λ n member. c.loop-place.invariant n (rw all member)),
    )
