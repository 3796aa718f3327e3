-- What is read off terms and made of them, by numbers.
use Rattle.std.specs.Prelude.{◌≡◌, ◌⊎◌, ◌<◌, ℕ, List, Bool, true, false, not, Some, Result, slice_get, IfOk, IfErr, length}
use Rattle.hol_model.specs.declared.fault.Fault.{Fault}
use Rattle.hol_model.specs.declared.fault.Fault.TheVariants.{Memory, TooLarge}
use Rattle.hol_model.specs.declared.limits.TheConstants.{TYPE_NODES_LIMIT}
use Rattle.hol_model.specs.Terms.HolType.{HolType, bool_type, domain_of, type_nodes}
use Rattle.hol_model.specs.Terms.Nameless.{Nameless, free, const}
use Rattle.hol_model.specs.Terms.Measures.{nameless_within_limits}
use Rattle.hol_model.specs.Terms.Substitution.{occurs_free}
use Rattle.hol_check_terms.specs.Terms.{term_at}

-- the first term is a variable that is not free in the second
abbrev pub is_absent_variable : Nameless → Nameless → Bool
is_absent_variable (free name ty) body = not (occurs_free name ty body)
is_absent_variable _ body = false

-- the type of arguments of a constant, or `bool` for another term
abbrev pub argument_type : Nameless → HolType
argument_type (const name ty) = domain_of ty
argument_type _ = bool_type

-- the wanted type has the number; only memory that is used up, or a limit that the type passes, refuses it
pub record IsMadeType (wanted : HolType) (result : Result ℕ Fault) (types : List HolType) : Type 0 where
  pub number : IfOk result (λ ty. slice_get types ty ≡ Some wanted)
  pub refused : IfErr result (λ fault. (fault ≡ Memory) ⊎ ((fault ≡ TooLarge) × (TYPE_NODES_LIMIT < type_nodes wanted)))

-- the wanted term is within the limits and has the number; only memory that is used up, or a limit that the term passes,
-- refuses it
pub record IsFormed (wanted : Nameless) (result : Result ℕ Fault) (terms : List Nameless) : Type 0 where
  pub number : IfOk result (λ new. slice_get terms new ≡ Some wanted)
  pub fits : IfOk result (λ _. nameless_within_limits wanted ≡ true)
  pub refused : IfErr result (λ fault. (fault ≡ Memory) ⊎ ((fault ≡ TooLarge) × (nameless_within_limits wanted ≡ false)))

-- the number is that of a term within the limits
pub record IsFitting (terms : List Nameless) (number : ℕ) : Type 0 where
  pub within : number < length terms
  pub fits : nameless_within_limits (term_at terms number) ≡ true
