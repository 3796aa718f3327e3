-- The outcome of each rule of the kernel (the rules of HOL Light's `fusion.ml`): a theorem, or the first refusal that
-- applies.
use Rattle.std.specs.Prelude.{ℕ, List, [], ◌∷◌, Bool, false, not, Option, Some, None, Result, Ok, if◌then◌else◌, nat_le, length}
use Rattle.std.specs.Option.{option_map_or, is_some}
use Rattle.std.specs.List.{list_any}
use Rattle.std.specs.Str.{bytes_eq}
use Rattle.hol_model.specs.declared.fault.Fault.{Fault}
use Rattle.hol_model.specs.declared.fault.Fault.TheVariants.{TooLarge, TypeMismatch, UnknownConst, NotInstance, NotBool, NotEquation, NotAlpha, NotVariable, FreeInHypothesis, NotTrivialBeta}
use Rattle.hol_model.specs.declared.fault.Fault.TheVariants.{UnknownType, BadName, NotClosed, TypeVarsNotReflected, AlreadyDefined}
use Rattle.hol_model.specs.Terms.HolType.{HolType, bool_type, type_eq}
use Rattle.hol_model.specs.Terms.NamedTerm.{NamedTerm, variable, constant, combination, abstraction, type_of, same_variable, is_free, dest_variable, abstract, equation, is_within_limits}
use Rattle.hol_model.specs.declared.limits.TheConstants.{DEFINITIONS_LIMIT}
use Rattle.hol_model.specs.Terms.Name.{is_constant_name, is_declared_type_name}
use Rattle.hol_model.specs.Terms.Nameless.{image}
use Rattle.hol_model.specs.Logic.Theory.{Theory, definition, declaration_of_type, declaration_of_constant, equality_name}
use Rattle.hol_model.specs.Logic.Legality.{is_closed, reflects, is_fixed, is_new_name, own_type}
use Rattle.hol_model.specs.Logic.KnownTerm.{knows_type, knows_types, knows_constants, has_instances}
use Rattle.hol_model.specs.Kernel.Outcome.{unless, given, refused}
use Rattle.hol_model.specs.Kernel.Theorem.{Theorem, are_alpha_equivalent, with_hypotheses, without_hypothesis}

-- the refusal for a term of which a type or a constant is not known
abbrev pub first_unknown : Theory → NamedTerm → Option Fault
first_unknown theory term =
    if not (knows_types theory term) then Some UnknownType
    else (if not (knows_constants theory term) then Some UnknownConst
    else (if not (has_instances theory term) then Some NotInstance
    else None))

-- the sides of an equation
abbrev pub dest_equation : NamedTerm → Option (NamedTerm × NamedTerm)
dest_equation (combination (combination (constant name ty) left) right) = if bytes_eq name equality_name then Some (left, right) else None
dest_equation _ = None

-- the term, where it is within the limits
abbrev pub limited : NamedTerm → Result NamedTerm Fault
limited term = unless (is_within_limits term) TooLarge (Ok term)

-- the abstraction over a variable, where it is within the limits
abbrev pub abstraction_outcome : NamedTerm → NamedTerm → Result NamedTerm Fault
abstraction_outcome binder body = given (abstract binder body) NotVariable limited

-- the theorem, where its conclusion is within the limits
abbrev pub concluded : Theory → List NamedTerm → NamedTerm → Result Theorem Fault
concluded theory hypotheses conclusion =
    unless (is_within_limits conclusion) TooLarge (Ok (record { theory = theory; hypotheses = hypotheses; conclusion = conclusion }))

-- the term is of type `bool`
abbrev pub is_formula : NamedTerm → Bool
is_formula term = option_map_or (λ ty. type_eq ty bool_type) (type_of term) false

-- REFL: |- t = t
abbrev pub refl_outcome : Theory → NamedTerm → Result Theorem Fault
refl_outcome theory term =
    refused (first_unknown theory term)
    (concluded theory [] (equation term term))

-- ASSUME: p |- p
abbrev pub assume_outcome : Theory → NamedTerm → Result Theorem Fault
assume_outcome theory term =
    unless (is_formula term) NotBool
    (refused (first_unknown theory term)
    (Ok (record { theory = theory; hypotheses = term ∷ []; conclusion = term })))

-- TRANS: from a = b and b = c, a = c
abbrev pub trans_outcome : Theory → Theorem → Theorem → Result Theorem Fault
trans_outcome theory first second =
    given (dest_equation first.conclusion) NotEquation (λ left.
    given (dest_equation second.conclusion) NotEquation (λ right.
    unless (are_alpha_equivalent left.1 right.0) NotAlpha
    (concluded theory (with_hypotheses first.hypotheses second.hypotheses) (equation left.0 right.1))))

-- EQ_MP: from p = q and p, q
abbrev pub eq_mp_outcome : Theory → Theorem → Theorem → Result Theorem Fault
eq_mp_outcome theory first second =
    given (dest_equation first.conclusion) NotEquation (λ sides.
    unless (are_alpha_equivalent sides.0 second.conclusion) NotAlpha
    (Ok (record { theory = theory; hypotheses = with_hypotheses first.hypotheses second.hypotheses; conclusion = sides.1 })))

-- MK_COMB: from f = g and x = y, f x = g y
abbrev pub mk_comb_outcome : Theory → Theorem → Theorem → Result Theorem Fault
mk_comb_outcome theory first second =
    given (dest_equation first.conclusion) NotEquation (λ functions.
    given (dest_equation second.conclusion) NotEquation (λ arguments.
    unless (is_some (type_of (combination functions.0 arguments.0))) TypeMismatch
    (concluded theory (with_hypotheses first.hypotheses second.hypotheses) (equation (combination functions.0 arguments.0) (combination functions.1 arguments.1)))))

-- the variable is free in some hypothesis
abbrev pub is_free_in_hypotheses : List ℕ → HolType → List NamedTerm → Bool
is_free_in_hypotheses name ty hypotheses = list_any (is_free name ty) hypotheses

-- ABS: from s = t, (\x. s) = (\x. t), where x is free in no hypothesis
abbrev pub abs_outcome : Theory → NamedTerm → Theorem → Result Theorem Fault
abs_outcome theory binder theorem =
    given (dest_variable binder) NotVariable (λ bound.
    given (dest_equation theorem.conclusion) NotEquation (λ sides.
    unless (knows_type theory bound.1) UnknownType
    (unless (not (is_free_in_hypotheses bound.0 bound.1 theorem.hypotheses)) FreeInHypothesis
    (concluded theory theorem.hypotheses (equation (abstraction bound.0 bound.1 sides.0) (abstraction bound.0 bound.1 sides.1))))))

-- the body of an abstraction that is applied to the very variable that it binds
abbrev pub dest_trivial_redex : NamedTerm → Option NamedTerm
dest_trivial_redex (combination (abstraction name ty body) (variable other s)) = if same_variable name ty other s then Some body else None
dest_trivial_redex _ = None

-- BETA: (\x. t) x = t
abbrev pub beta_outcome : Theory → NamedTerm → Result Theorem Fault
beta_outcome theory term =
    given (dest_trivial_redex term) NotTrivialBeta (λ body.
    refused (first_unknown theory term)
    (concluded theory [] (equation term body)))

-- DEDUCT_ANTISYM_RULE: from p and q, p = q, each without the other's conclusion among its hypotheses
abbrev pub deduct_antisym_outcome : Theory → Theorem → Theorem → Result Theorem Fault
deduct_antisym_outcome theory first second =
    concluded theory
    (with_hypotheses (without_hypothesis second.conclusion first.hypotheses) (without_hypothesis first.conclusion second.hypotheses))
    (equation first.conclusion second.conclusion)

-- there is no room for a further entry
abbrev pub is_full : Theory → Bool
is_full theory = nat_le DEFINITIONS_LIMIT (length theory)

-- a theory with one more definition
abbrev pub with_definition : Theory → List ℕ → NamedTerm → Theory
with_definition theory name term = definition name (own_type term) (image term) ∷ theory

-- a definition: |- c = t, which stands on the theory with it (HOL Light's `new_basic_definition`)
abbrev pub define_outcome : Theory → List ℕ → NamedTerm → Result Theorem Fault
define_outcome theory name term =
    unless (is_constant_name name) BadName
    (refused (first_unknown theory term)
    (unless (is_closed term) NotClosed
    (unless (reflects (own_type term) term) TypeVarsNotReflected
    (unless (is_new_name theory name) AlreadyDefined
    (unless (not (is_full theory)) TooLarge
    (concluded (with_definition theory name term) [] (equation (constant name (own_type term)) term)))))))

-- a declared type: the theory with it
abbrev pub new_type_outcome : Theory → List ℕ → Result Theory Fault
new_type_outcome theory name =
    unless (is_declared_type_name name) BadName
    (unless (is_new_name theory name) AlreadyDefined
    (unless (not (is_full theory)) TooLarge
    (Ok (declaration_of_type name ∷ theory))))

-- a declared constant of a fixed type: the theory with it
abbrev pub new_const_outcome : Theory → List ℕ → HolType → Result Theory Fault
new_const_outcome theory name ty =
    unless (is_constant_name name) BadName
    (unless (knows_type theory ty) UnknownType
    (unless (is_fixed ty) TypeVarsNotReflected
    (unless (is_new_name theory name) AlreadyDefined
    (unless (not (is_full theory)) TooLarge
    (Ok (declaration_of_constant name ty ∷ theory))))))
