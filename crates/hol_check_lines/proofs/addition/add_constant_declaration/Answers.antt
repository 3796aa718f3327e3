use Rattle.hol_check_lines.proofs.AdditionLemmas.{on_err-weaker}
use Rattle.hol_check_lines.proofs.addition.add_constant_declaration.Goals as goal

pub returns-clause-kept : goal.returns-clause-kept
returns-clause-kept c = on_err-weaker c.declare_constant.result (λ kept table is stands. kept table is) c.declare_constant.ensures.kept
