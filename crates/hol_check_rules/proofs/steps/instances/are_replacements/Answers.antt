use Rattle.std.proofs.Common.{◌&&◌, ◌+◌, drop, ◌∙◌, ap}
use Rattle.std.specs.List.{list_all}
use Rattle.hol_model.specs.Logs.LogFaults.{is_replacement}
use Rattle.hol_check_rules.specs.StepPairs.{term_pairs_in}
use Rattle.hol_check_rules.proofs.InstanceLemmas.{replaced-more}
use Rattle.hol_check_rules.proofs.steps.instances.are_replacements.Goals as goal
use Rattle.hol_check_terms.proofs.GrowthLemmas.{IsGrown-trans}

pub loop-pair-preserved : goal.loop-pair-preserved
loop-pair-preserved c =
    let t0 = c.args.terms.now in
    let t1 = c.loop-pair.terms in
    let rest = list_all is_replacement (term_pairs_in t0.terms (drop (c.loop-pair.pair-index + 1) c.args.pairs.now)) in
    record {
      grows = IsGrown-trans t0 t1 c.is_replacement.new.terms c.loop-pair.invariant.grows c.is_replacement.ensures.grows;
      rest =
          replaced-more t0 t1 c.args.pairs.now c.loop-pair.pair-index (0, 0) c.in_ok-replaces.replaces c.loop-pair.invariant.grows c.loop-pair-test.true c.requires c.loop-pair.invariant.rest
          c.in_ok-replaces.ensures.is
          ∙ ap (λ b. b && rest) c.if-not-replaces.false;
    }
