-- What the instance of the rule states, and what its refusal for size says.
use Rattle.std.proofs.Common.{◌≡◌, true, Ok, Err}
use Rattle.std.specs.List.{list_all}
use Rattle.hol_model.specs.Terms.Measures.{nameless_within_limits}
use Rattle.hol_model.specs.Derived.DerivedRules.{terms_of_theorem}
use Rattle.hol_rewrite.specs.Instances.{replacements_of}
use Rattle.hol_rewrite.proofs.RuleInstances.{instance_derives, terms_known, instance_is, instance_fits, instance_past}
use Rattle.hol_equal.proofs.StepLemmas.{passed_on}
use Rattle.hol_rewrite.proofs.rewriting.rule_instance.Goals as goal

pub instance_known-requires-clause-known : goal.instance_known-requires-clause-known
instance_known-requires-clause-known c =
    terms_known c.args.recorder.now.theory (replacements_of c.args.found.now) c.deref-2.result.now c.args.rule.now.theorem c.args.term.now c.ty-type.result.now
    c.deref-2.ensures.value c.requires.applies c.ty-type.ensures c.requires.known

pub returns-in_err-made-clause-err : goal.returns-in_err-made-clause-err
returns-in_err-made-clause-err c =
    let rule = c.args.rule.now.theorem in
    let by = replacements_of c.args.found.now in
    let term = c.args.term.now in
    let derives = instance_derives c.args.recorder.now.theory by c.deref.result.now c.deref-2.result.now rule term c.ty-type.result.now (Err c.in_err-made.field-0.0)
    c.deref.ensures.value c.deref-2.ensures.value c.requires.applies c.ty-type.ensures c.requires.known
    c.in_err-made.ensures.derives in
    rw (passed_on c.from_residual.result c.in_err-made.field-0.0 c.from_residual.ensures.1)
    (instance_past rule by term c.in_err-made.field-0.0 (rw c.thm.ensures at c.concl-conclusion.ensures.theorem) c.requires.applies derives)

pub returns-clause-rewritten : goal.returns-clause-rewritten
returns-clause-rewritten c =
    let rule = c.args.rule.now.theorem in
    let by = replacements_of c.args.found.now in
    let term = c.args.term.now in
    let derives = instance_derives c.args.recorder.now.theory by c.deref.result.now c.deref-2.result.now rule term c.ty-type.result.now (Ok c.in_ok-made.made)
    c.deref.ensures.value c.deref-2.ensures.value c.requires.applies c.ty-type.ensures c.requires.known
    c.in_ok-made.ensures.derives in
    instance_is rule by c.in_ok-made.made.theorem derives

pub returns-clause-fits : goal.returns-clause-fits
returns-clause-fits c =
    let rule = c.args.rule.now.theorem in
    let by = replacements_of c.args.found.now in
    let term = c.args.term.now in
    let derives = instance_derives c.args.recorder.now.theory by c.deref.result.now c.deref-2.result.now rule term c.ty-type.result.now (Ok c.in_ok-made.made)
    c.deref.ensures.value c.deref-2.ensures.value c.requires.applies c.ty-type.ensures c.requires.known
    c.in_ok-made.ensures.derives in
    let within : list_all nameless_within_limits (terms_of_theorem c.thm-2.result.now) ≡ true = c.within_limits.ensures in
    instance_fits rule by c.in_ok-made.made.theorem (instance_is rule by c.in_ok-made.made.theorem derives) (rw c.thm-2.ensures at within)
