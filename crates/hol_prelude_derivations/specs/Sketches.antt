-- What the types and terms that stand as data in the code are.
use Rattle.std.specs.Prelude.{Result, Ok, Err}
use Rattle.hol_model.specs.declared.fault.Fault.{Fault}
use Rattle.hol_model.specs.Terms.HolType.{HolType, bool_type}
use Rattle.hol_model.specs.Terms.NamedTerm.{NamedTerm}
use Rattle.hol_model.specs.Kernel.Constructors.{type_variable_outcome, function_type_outcome, variable_outcome, constant_outcome, combination_outcome, equation_outcome}
use Rattle.hol_model.specs.Kernel.Rules.{abstraction_outcome}
use Rattle.hol_prelude_derivations.specs.declared.sketch.TypeSketch as types
use Rattle.hol_prelude_derivations.specs.declared.sketch.TypeSketch.{TypeSketch}
use Rattle.hol_prelude_derivations.specs.declared.sketch.TermSketch as terms
use Rattle.hol_prelude_derivations.specs.declared.sketch.TermSketch.{TermSketch}

-- what follows an answer, or its refusal
abbrev pub followed : {A B : Type 0} → Result A Fault → (A → Result B Fault) → Result B Fault
followed (Ok x) next = next x
followed (Err fault) next = Err fault

abbrev pub type_outcome : TypeSketch → Result HolType Fault
type_outcome (types.Variable name) = type_variable_outcome name.now
type_outcome types.Bool = Ok bool_type
type_outcome types.Binary = followed (function_type_outcome bool_type bool_type) (λ unary. function_type_outcome bool_type unary)
type_outcome (types.Function' p domain q codomain) =
    followed (type_outcome domain) (λ domain. followed (type_outcome codomain) (λ codomain. function_type_outcome domain codomain))

abbrev pub term_outcome : TermSketch → Result NamedTerm Fault
term_outcome (terms.Formula name) = variable_outcome name.now bool_type
term_outcome (terms.Variable name ty) = followed (type_outcome ty.now) (λ ty. variable_outcome name.now ty)
term_outcome (terms.Constant name ty) = followed (type_outcome ty.now) (λ ty. constant_outcome name.now ty)
term_outcome (terms.Combination' p function q argument) =
    followed (term_outcome function) (λ function. followed (term_outcome argument) (λ argument. combination_outcome function argument))
term_outcome (terms.Abstraction' p variable q body) =
    followed (term_outcome variable) (λ variable. followed (term_outcome body) (λ body. abstraction_outcome variable body))
term_outcome (terms.Equation' p left q right) =
    followed (term_outcome left) (λ left. followed (term_outcome right) (λ right. equation_outcome left right))
