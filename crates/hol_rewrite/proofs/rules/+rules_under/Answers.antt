use native.Mathlib.Omega.{arith}
use Rattle.std.proofs.Common.{◌≡◌, ◌<◌, ◌++◌}
use Rattle.hol_model.specs.Terms.NamedTerm.{nodes}
use Rattle.hol_prelude_derivations.specs.Derivations.{theorems}
use Rattle.hol_rewrite.specs.Rules.{HasRules}
use Rattle.hol_rewrite.specs.Reduction.{AreParts}
use Rattle.hol_rewrite.proofs.Reducing.{logical_later, made_later}
use Rattle.hol_rewrite.proofs.JoinedRules.{rules-joined, if-ok}
use Rattle.hol_rewrite.proofs.rules.+rules_under.Goals as goal

pub rules_under-requires-in-Ok-Parts : goal.rules_under-requires-in-Ok-Parts
rules_under-requires-in-Ok-Parts t c =
    let are : AreParts c.reduce.new.recorder c.args.hypotheses.now c.args.theorem.now.theorem c.in-Ok-Parts.left c.in-Ok-Parts.right = rw c.in-Ok-Parts.field-0-is at c.in-Ok-Parts.ensures.reduced in
    let logical = logical_later c.rules_under.ensures.goes_on (logical_later c.reduce.ensures.goes_on c.requires.logic) in
    let made = made_later c.rules_under.ensures.goes_on are.is_right.is_made in
    let before : nodes c.in-Ok-Parts.right.theorem.conclusion < nodes c.args.theorem.now.theorem.conclusion = are.is_right.fewer in
    (omega arith, (logical, (made, are.is_right.same_hypotheses)))

pub returns-in_ok-more-in-Ok-Parts-clause-ok : goal.returns-in_ok-more-in-Ok-Parts-clause-ok
returns-in_ok-more-in-Ok-Parts-clause-ok t c =
    let are : AreParts c.reduce.new.recorder c.args.hypotheses.now c.args.theorem.now.theorem c.in-Ok-Parts.left c.in-Ok-Parts.right = rw c.in-Ok-Parts.field-0-is at c.in-Ok-Parts.ensures.reduced in
    if-ok (λ all. all.items ≡ c.in_ok-rules-in-Ok-Parts.rules.items ++ c.in_ok-more-in-Ok-Parts.more.items) (λ all. HasRules c.args.hypotheses.now c.args.theorem.now.theorem.conclusion (theorems all.items)) c.both.result
    (λ all is. rules-joined c.reduce.new.recorder c.args.hypotheses.now c.args.theorem.now.theorem c.in-Ok-Parts.left c.in-Ok-Parts.right c.in_ok-rules-in-Ok-Parts.rules.items
    c.in_ok-more-in-Ok-Parts.more.items all.items
    are c.in_ok-rules-in-Ok-Parts.ensures.ok c.in_ok-more-in-Ok-Parts.ensures.ok is)
    c.both.ensures.ok
