-- The binders and the arguments that stand in stack frames.
use Rattle.std.specs.Prelude.{List, [], ◌∷◌}
use Rattle.hol_model.specs.Terms.HolType.{HolType, codomain_of}
use Rattle.hol_model_evaluator.specs.Trees.{hol_type}
use Rattle.hol_model_evaluator.specs.declared.types.BinderTypes.{BinderTypes, Outermost, Under'}
use Rattle.hol_model_evaluator.specs.declared.types.Arguments.{Arguments, None, OneMore'}

abbrev pub types_of : BinderTypes → List HolType
types_of Outermost = []
types_of (Under' ty p outer) = hol_type ty.now ∷ types_of outer

-- a function's type, once it has taken the arguments
abbrev pub taken : Arguments → HolType → HolType
taken None ty = ty
taken (OneMore' p rest) ty = taken rest (codomain_of ty)
