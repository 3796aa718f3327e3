-- Which definitions and declarations are accepted: the legal ones, within the limits.
use Rattle.std.specs.Prelude.{◌≡◌, List, [], ◌∷◌, ℕ, not, Some, Result, Ok}
use Rattle.hol_model.specs.declared.fault.Fault.{Fault}
use Rattle.hol_model.specs.declared.fault.Fault.TheVariants.{TooLarge}
use Rattle.hol_model.specs.Terms.HolType.{HolType}
use Rattle.hol_model.specs.Terms.NamedTerm.{NamedTerm, constant, type_of, equation}
use Rattle.hol_model.specs.Terms.Nameless.{image}
use Rattle.hol_model.specs.Logic.Theory.{Theory, declaration_of_type, declaration_of_constant, IsLegalDefinition, IsLegalConstant, IsLegalType}
use Rattle.hol_model.specs.Kernel.Outcome.{unless}
use Rattle.hol_model.specs.Kernel.Theorem.{Theorem}
use Rattle.hol_model.specs.Kernel.Rules.{is_full, concluded, with_definition, define_outcome, new_type_outcome, new_const_outcome}

-- what is left to ask where an entry is legal: that there is room for it
abbrev pub if_room : {A : Type 0} → Theory → Result A Fault → Result A Fault
if_room theory next = unless (not (is_full theory)) TooLarge next

-- a legal definition or declaration is refused for the limits alone, and what is accepted is legal
pub record AcceptsTheLegal : Type 0 where
  pub legal_definition : (theory : Theory) (name : List ℕ) (term : NamedTerm) (ty : HolType) → type_of term ≡ Some ty → IsLegalDefinition theory name ty (image term)
      → define_outcome theory name term ≡ if_room theory (concluded (with_definition theory name term) [] (equation (constant name ty) term))
  pub legal_type : (theory : Theory) (name : List ℕ) → IsLegalType theory name → new_type_outcome theory name ≡ if_room theory (Ok (declaration_of_type name ∷ theory))
  pub legal_constant : (theory : Theory) (name : List ℕ) (ty : HolType) → IsLegalConstant theory name ty
      → new_const_outcome theory name ty ≡ if_room theory (Ok (declaration_of_constant name ty ∷ theory))
  pub accepted_definition : (theory : Theory) (name : List ℕ) (term : NamedTerm) (ty : HolType) (theorem : Theorem) → type_of term ≡ Some ty
      → define_outcome theory name term ≡ Ok theorem → IsLegalDefinition theory name ty (image term)
  pub accepted_type : (theory : Theory) (name : List ℕ) (now : Theory) → new_type_outcome theory name ≡ Ok now → IsLegalType theory name
  pub accepted_constant : (theory : Theory) (name : List ℕ) (ty : HolType) (now : Theory) → new_const_outcome theory name ty ≡ Ok now → IsLegalConstant theory name ty
