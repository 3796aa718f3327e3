use Rattle.std.proofs.Common.{refl}
use Rattle.hol_model.specs.Goals.Justifications.{by_rule}
use Rattle.hol_model.specs.Derived.DerivedRules.{named}
use Rattle.hol_model.specs.declared.rule.Rule.TheVariants as rules
use Rattle.hol_model.specs.Refining.Refiners.{one_part, from_first}
use Rattle.hol_refine.proofs.rows.discharged.Goals as goal

pub returns : goal.returns
returns c = c.to_assuming.ensures (named c.args.p.now) (by_rule (rules.Disch c.args.p.now) (one_part from_first)) refl c.in_ok-just.ensures
