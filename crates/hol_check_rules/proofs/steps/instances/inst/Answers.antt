use Rattle.std.proofs.Common.{not, refl, sym, ◌∙◌, ap, subst}
use Rattle.hol_model.specs.Logs.LogSequents.{term_instance_of}
use Rattle.hol_check_changes.specs.Change.{changed, putting}
use Rattle.hol_check_rules.specs.State.{sequent_in}
use Rattle.hol_check_rules.specs.StepPairs.{term_pairs_in}
use Rattle.hol_check_rules.specs.Steps.{Takes, changed_step}
use Rattle.hol_check_changes.proofs.PairLemmas.{pairs-grown}
use Rattle.hol_check_rules.proofs.StateLemmas.{theorem-grown, sequent-still}
use Rattle.hol_check_rules.proofs.StepLemmas.{typed-taken}
use Rattle.hol_check_rules.proofs.InstanceLemmas.{are-term-pairs, putting-is}
use Rattle.hol_check_rules.proofs.steps.instances.inst.Goals as goal

pub changed_theorem-requires-clause-meaning : goal.changed_theorem-requires-clause-meaning
changed_theorem-requires-clause-meaning c =
    let t0 = c.args.terms.now in
    let t1 = c.are_replacements.new.terms in
    let theta = term_pairs_in t0.terms c.args.pairs.now in
    record {
      meaning = putting (term_instance_of theta);
      meant = record {
        theta = theta;
        are_pairs = pairs-grown t0.terms t1.terms c.are_replacements.ensures.grows.terms c.args.pairs.now theta
            (are-term-pairs t0.terms c.args.pairs.now c.requires.pairs);
        is_meant = refl;
      };
    }

pub changed_theorem-requires-clause-premise : goal.changed_theorem-requires-clause-premise
changed_theorem-requires-clause-premise c = theorem-grown c.args.terms.now c.are_replacements.new.terms c.are_replacements.ensures.grows c.args.premise.now c.requires.premise

pub returns-clause-taken : goal.returns-clause-taken
returns-clause-taken c =
    let t0 = c.args.terms.now in
    let t1 = c.are_replacements.new.terms in
    let theta = term_pairs_in t0.terms c.args.pairs.now in
    let result = c.changed_theorem.result in
    let now = c.changed_theorem.new.terms.terms in
    let taken = c.changed_theorem.ensures.taken (putting (term_instance_of theta))
    (record {
      theta = theta;
      are_pairs = pairs-grown t0.terms t1.terms c.are_replacements.ensures.grows.terms c.args.pairs.now theta
          (are-term-pairs t0.terms c.args.pairs.now c.requires.pairs);
      is_meant = refl;
    }) in
    let still = subst (λ s. Takes (changed_step (changed (putting (term_instance_of theta)) 0) s) result now)
    (sequent-still t0 t1 c.are_replacements.ensures.grows c.args.premise.now c.requires.premise) taken in
    typed-taken _ _ _ result now (ap not (sym c.in_ok-replaces.ensures.are ∙ c.if-not-replaces.false)) refl
    (subst (λ f. Takes (changed_step f (sequent_in t0.terms c.args.premise.now)) result now) (putting-is theta) still)
