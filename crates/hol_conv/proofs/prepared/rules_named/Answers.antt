use Rattle.std.proofs.Common.{sym, subst, ap, ◌∙◌}
use Rattle.hol_model.specs.declared.fault.Fault.{Fault}
use Rattle.hol_rewrite.specs.RuleSides.{sides_of_rules}
use Rattle.hol_theorem_library.specs.Library.{store_in}
use Rattle.hol_conv.specs.Prepared.{RefusesRules, is_without_memory}
use Rattle.hol_conv.proofs.StoredRules.{prepared}
use Rattle.hol_equal.proofs.StepLemmas.{passed_on}
use Rattle.hol_conv.proofs.prepared.rules_named.Goals as goal

pub returns-in_err-choice-clause-err : goal.returns-in_err-choice-clause-err
returns-in_err-choice-clause-err c =
    rw (passed_on c.from_residual-in_err-choice.result c.in_err-choice.field-0.0 c.from_residual-in_err-choice.ensures.1)
    (subst (λ (fault : Fault). RefusesRules (store_in c.args.library.now) c.args.name.now fault) (sym c.in_err-choice.ensures.err) is_without_memory)

pub returns-in-Ok-clause-ok : goal.returns-in-Ok-clause-ok
returns-in-Ok-clause-ok c =
    prepared c.args.library.now c.stored_rules.new.library c.args.name.now
    (record { name = c.in-Ok.name; rules = c.in_ok-rules.rules; choice = c.in_ok-choice.choice })
    c.stored_rules.ensures.continued c.in-Ok.ensures.ok c.in_ok-rules.ensures.ok c.in_ok-rules.ensures.made
    (c.in_ok-choice.ensures.ok ∙ ap sides_of_rules c.deref.ensures.value)

pub returns-in-Err-clause-err : goal.returns-in-Err-clause-err
returns-in-Err-clause-err c = is_without_memory
