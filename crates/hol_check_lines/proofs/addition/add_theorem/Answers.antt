use Rattle.std.proofs.Common.{refl}
use Rattle.hol_check_rules.specs.declared.state.Addition.TheVariants.{Proved}
use Rattle.hol_check_lines.proofs.AdditionLemmas.{gains-theorem, keeps-theorems}
use Rattle.hol_check_lines.proofs.addition.add_theorem.Goals as goal

pub returns-clause-added : goal.returns-clause-added
returns-clause-added c = gains-theorem c.args.contents.now (Proved c.args.theorem) _ c.args.theorem c.push.result refl c.push.ensures.added

pub returns-clause-kept : goal.returns-clause-kept
returns-clause-kept c = keeps-theorems c.args.contents.now (Proved c.args.theorem) _ c.push.result c.push.ensures.kept
