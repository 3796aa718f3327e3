-- The values of binders that stand in stack frames.
use Rattle.std.specs.Prelude.{List, [], ◌∷◌}
use Rattle.hol_model.specs.Models.Values.{Value}
use Rattle.hol_model_evaluator.specs.declared.meanings.BinderValues.{BinderValues, Outermost, Under'}

abbrev pub values_under : BinderValues → List Value
values_under Outermost = []
values_under (Under' element p outer) = element.now ∷ values_under outer
