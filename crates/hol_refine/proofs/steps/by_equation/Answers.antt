use Rattle.std.proofs.Common.{refl}
use Rattle.hol_model.specs.Goals.Justifications.{by_rule, lemma}
use Rattle.hol_model.specs.declared.rule.Rule.TheVariants as rules
use Rattle.hol_model.specs.Refining.Refiners.{one_part, from_first}
use Rattle.hol_refine.proofs.steps.by_equation.Goals as goal

pub returns : goal.returns
returns c = c.from_two.ensures (by_rule rules.Sym (one_part (lemma c.args.number))) from_first c.turned.ensures c.subgoal.ensures refl refl
