use Rattle.std.proofs.Common.{◌&&◌, sym, ap, ◌∙◌}
use Rattle.hol_model.specs.Terms.HolType.{function_type, is_instance}
use Rattle.hol_model.specs.Texts.Reading.{quantifier_type}
use Rattle.hol_syntax.specs.Building.{fits_truth}
use Rattle.hol_types.proofs.Domains.{variable_fits}
use Rattle.hol_syntax.proofs.QuantifierInstances.{at_predicate_variable, at_predicate}
use Rattle.hol_syntax.proofs.quantifier.is_quantifier_instance.Goals as goal

pub returns-in-Variable : goal.returns-in-Variable
returns-in-Variable c =
    sym (ap (λ g. is_instance g (quantifier_type c.args.ty.now)) (sym c.in-Variable.ensures.value) ∙ sym (variable_fits c.in-Variable.field-0.now (quantifier_type c.args.ty.now)))

pub returns-in-Variable-parts : goal.returns-in-Variable-parts
returns-in-Variable-parts c =
    c.is_truth_apart.ensures
    ∙ sym
    (ap (λ g. is_instance g (quantifier_type c.args.ty.now)) (sym c.in-Function.ensures.value ∙ ap (λ p. function_type p c.in-Function.truth.now) (sym c.in-Variable-parts.ensures.value))
    ∙ at_predicate_variable c.in-Variable-parts.name.now c.in-Function.truth.now c.args.ty.now)

pub returns-then-fits_predicate : goal.returns-then-fits_predicate
returns-then-fits_predicate c =
    c.fits_truth.ensures
    ∙ sym
    (ap (λ g. is_instance g (quantifier_type c.args.ty.now)) (sym c.in-Function.ensures.value ∙ ap (λ p. function_type p c.in-Function.truth.now) (sym c.in-Function-parts.ensures.value))
    ∙ at_predicate c.in-Function-parts.first.now c.in-Function-parts.second.now c.in-Function.truth.now c.args.ty.now
    ∙ ap (λ b. b && fits_truth c.in-Function-parts.first.now c.args.ty.now c.in-Function.truth.now) (sym c.if-fits_predicate.ensures))

pub returns-else-fits_predicate : goal.returns-else-fits_predicate
returns-else-fits_predicate c =
    c.if-fits_predicate.false
    ∙ sym
    (ap (λ g. is_instance g (quantifier_type c.args.ty.now)) (sym c.in-Function.ensures.value ∙ ap (λ p. function_type p c.in-Function.truth.now) (sym c.in-Function-parts.ensures.value))
    ∙ at_predicate c.in-Function-parts.first.now c.in-Function-parts.second.now c.in-Function.truth.now c.args.ty.now
    ∙ ap (λ b. b && fits_truth c.in-Function-parts.first.now c.args.ty.now c.in-Function.truth.now) (sym c.if-fits_predicate.ensures))
