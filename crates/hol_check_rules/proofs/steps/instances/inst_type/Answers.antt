use Rattle.std.proofs.Common.{◌≡◌, true, not, refl, ap, subst}
use Rattle.hol_model.specs.Terms.HolType.{replaces_type_variables, type_instance_of}
use Rattle.hol_check_changes.specs.Change.{instantiating}
use Rattle.hol_check_rules.specs.State.{sequent_in}
use Rattle.hol_check_rules.specs.StepPairs.{type_pairs_in}
use Rattle.hol_check_rules.specs.Steps.{Takes, changed_step}
use Rattle.hol_check_rules.proofs.StepLemmas.{typed-taken}
use Rattle.hol_check_rules.proofs.InstanceLemmas.{are-type-pairs, instantiating-is}
use Rattle.hol_check_rules.proofs.steps.instances.inst_type.Goals as goal

pub changed_theorem-requires-clause-meaning : goal.changed_theorem-requires-clause-meaning
changed_theorem-requires-clause-meaning c =
    let types = c.args.terms.now.types in
    let theta = type_pairs_in types c.args.pairs.now in
    record {
      meaning = instantiating (type_instance_of theta);
      meant = record { theta = theta; are_pairs = are-type-pairs types c.args.pairs.now c.requires.pairs; is_meant = refl };
    }

pub returns-clause-taken : goal.returns-clause-taken
returns-clause-taken c =
    let types = c.args.terms.now.types in
    let theta = type_pairs_in types c.args.pairs.now in
    let result = c.changed_theorem.result in
    let now = c.changed_theorem.new.terms.terms in
    let all : replaces_type_variables theta ≡ true = cc (c.replace_type_variables.ensures, c.if-not-replace_type_variables.false) in
    let taken = c.changed_theorem.ensures.taken (instantiating (type_instance_of theta))
    (record { theta = theta; are_pairs = are-type-pairs types c.args.pairs.now c.requires.pairs; is_meant = refl }) in
    typed-taken _ _ _ result now (ap not all) refl (subst (λ f. Takes (changed_step f (sequent_in c.args.terms.now.terms c.args.premise.now)) result now) (instantiating-is theta) taken)
