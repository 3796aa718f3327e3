-- The place of the first match is that of the first rule that applies.
use Rattle.std.proofs.Common.{◌<◌, length, refl}
use Rattle.std.proofs.lemmas.Option.{slice_get_read}
use Rattle.hol_prelude_derivations.specs.Derivations.{theorems}
use Rattle.hol_rewrite.specs.Instances.{replacements_of}
use Rattle.hol_rewrite.proofs.RecordedRules.{place_within, first_rule, rewritten, not_rewritten}
use Rattle.hol_equal.proofs.StepLemmas.{passed_on}
use Rattle.hol_rewrite.proofs.rewriting.rewrite_at.Goals as goal

pub returns-in_err-place-clause-rewrites : goal.returns-in_err-place-clause-rewrites
returns-in_err-place-clause-rewrites c =
    rw (passed_on c.from_residual.result c.in_err-place.field-0.0 c.from_residual.ensures.1)
    (not_rewritten c.args.rules.now c.args.choice.now c.args.term.now c.in_err-place.field-0.0 c.requires.choice c.in_err-place.ensures.err)

pub bounds-rules-place : goal.bounds-rules-place
bounds-rules-place c = place_within c.args.rules.now c.args.choice.now c.args.term.now c.in_ok-place.place c.in_ok-place.found c.requires.choice c.in_ok-place.ensures.ok

pub rule_instance-requires-clause-made : goal.rule_instance-requires-clause-made
rule_instance-requires-clause-made c =
    let rules = c.args.rules.now in
    let place = c.in_ok-place.place in
    let rule = c.index-rules-place.result in
    let within : place < length rules = place_within rules c.args.choice.now c.args.term.now place c.in_ok-place.found c.requires.choice c.in_ok-place.ensures.ok in
    c.requires.made.each place rule (slice_get_read rules (length rules) place rule refl within c.index-rules-place.is)

pub rule_instance-requires-clause-applies : goal.rule_instance-requires-clause-applies
rule_instance-requires-clause-applies c =
    let rules = c.args.rules.now in
    let choice = c.args.choice.now in
    let term = c.args.term.now in
    let place = c.in_ok-place.place in
    let found = c.in_ok-place.found in
    let rule = c.index-rules-place.result in
    let within : place < length rules = place_within rules choice term place found c.requires.choice c.in_ok-place.ensures.ok in
    let there = slice_get_read rules (length rules) place rule refl within c.index-rules-place.is in
    (first_rule rules choice term place rule found c.requires.equations c.requires.choice there c.in_ok-place.ensures.ok).applies

pub returns-clause-rewrites : goal.returns-clause-rewrites
returns-clause-rewrites c =
    let rules = c.args.rules.now in
    let choice = c.args.choice.now in
    let term = c.args.term.now in
    let place = c.in_ok-place.place in
    let found = c.in_ok-place.found in
    let rule = c.index-rules-place.result in
    let within : place < length rules = place_within rules choice term place found c.requires.choice c.in_ok-place.ensures.ok in
    let there = slice_get_read rules (length rules) place rule refl within c.index-rules-place.is in
    let first = first_rule rules choice term place rule found c.requires.equations c.requires.choice there c.in_ok-place.ensures.ok in
    rewritten (theorems rules) term rule.theorem (replacements_of found) c.rule_instance.result first c.rule_instance.ensures.rewritten c.rule_instance.ensures.fits c.rule_instance.ensures.err
