-- The parts of a term to which a conversion goes down.
use Rattle.std.specs.Prelude.{◌≡◌, ℕ, ◌<◌, ◌≤◌, List, None}
use Rattle.hol_model.specs.declared.fault.Fault.{Fault}
use Rattle.hol_model.specs.declared.fault.Fault.TheVariants.{TooLarge, ConvFails}
use Rattle.hol_model.specs.declared.limits.TheConstants.{DESCENTS_LIMIT}
use Rattle.hol_model.specs.Terms.HolType.{HolType}
use Rattle.hol_model.specs.Terms.NamedTerm.{NamedTerm, variable, combination, abstraction, dest_combination, dest_abstraction}

pub record AreParts (t : NamedTerm) (depth : ℕ) (function argument : NamedTerm) : Type 0 where
  pub is : t ≡ combination function argument
  pub room : depth < DESCENTS_LIMIT

pub record AreBoundParts (t : NamedTerm) (depth : ℕ) (binder body : NamedTerm) : Type 0 where
  pub name : List ℕ
  pub ty : HolType
  pub bound : binder ≡ variable name ty
  pub is : t ≡ abstraction name ty body
  pub room : depth < DESCENTS_LIMIT

pub data RefusesParts : NamedTerm → ℕ → Fault → Type 0 where
  is_no_combination : {t : NamedTerm} {depth : ℕ} → dest_combination t ≡ None → RefusesParts t depth ConvFails
  combination_is_too_deep : {f x : NamedTerm} {depth : ℕ} → DESCENTS_LIMIT ≤ depth → RefusesParts (combination f x) depth TooLarge

pub data RefusesBoundParts : NamedTerm → ℕ → Fault → Type 0 where
  is_no_abstraction : {t : NamedTerm} {depth : ℕ} → dest_abstraction t ≡ None → RefusesBoundParts t depth ConvFails
  abstraction_is_too_deep : {name : List ℕ} {ty : HolType} {body : NamedTerm} {depth : ℕ} → DESCENTS_LIMIT ≤ depth → RefusesBoundParts (abstraction name ty body) depth TooLarge
