use Rattle.std.proofs.Common.{sym, ◌∙◌}
use Rattle.hol_model.specs.Texts.Reading.{truth_operation}
use Rattle.hol_syntax.proofs.Making.{copied_type}
use Rattle.hol_syntax.proofs.builder.shared_truth_operation.Goals as goal

pub returns-then-is_truth_operation : goal.returns-then-is_truth_operation
returns-then-is_truth_operation c =
    copied_type c.copy.result c.args.ty.now truth_operation (sym c.is_truth_operation.ensures ∙ c.if-is_truth_operation.true) c.copy.ensures.ok c.copy.ensures.err
