-- Quantified formulas by their parts, and witnesses of existential formulas.
use Rattle.std.specs.Prelude.{◌≡◌, ℕ, List, [], ◌∷◌, Some}
use Rattle.hol_model.specs.Terms.HolType.{HolType, bool_type}
use Rattle.hol_model.specs.Terms.NamedTerm.{NamedTerm, variable, abstraction, type_of}
use Rattle.hol_model.specs.Logic.NamedLogic.{dest_quantified}
use Rattle.hol_model.specs.Terms.Nameless.{Nameless, const, app, image}
use Rattle.hol_model.specs.Logic.Logic.{exists_name, predicate, quantifier}
use Rattle.hol_model.specs.Terms.Substitution.{close, fill}
use Rattle.hol_model.specs.Logic.Theory.{Theory, IsKnown}
use Rattle.hol_equal.specs.Conversions.{closed}

-- a known formula with a quantifier over an abstraction
pub record IsQuantified (theory : Theory) (quantifier_name : List ℕ) (formula function binder body : NamedTerm) : Type 0 where
  pub name : List ℕ
  pub ty : HolType
  pub function_is : function ≡ abstraction name ty body
  pub binder_is : binder ≡ variable name ty
  pub dest : dest_quantified quantifier_name formula ≡ Some (record { name = name; ty = ty; body = body })
  pub formula_image : image formula ≡ app (const quantifier_name (quantifier ty)) (closed name ty body)
  pub body_typed : type_of body ≡ Some bool_type
  pub function_known : IsKnown theory (closed name ty body) (predicate ty)

-- a known formula ?x. p, a known witness w, and p[w/x]
pub record IsWitnessed (theory : Theory) (formula function binder body witness : NamedTerm) (instance : Nameless) : Type 0 where
  pub parts : IsQuantified theory exists_name formula function binder body
  pub witness_typed : type_of witness ≡ Some parts.ty
  pub witness_known : IsKnown theory (image witness) parts.ty
  pub instance_is : instance ≡ fill (image witness) (close parts.name parts.ty (image body))

-- the abstraction of such a formula, which has the body p
pub record IsInstance (theory : Theory) (function binder witness : NamedTerm) (instance : Nameless) : Type 0 where
  pub formula : NamedTerm
  pub body : NamedTerm
  pub witnessed : IsWitnessed theory formula function binder body witness instance

-- the terms of EXISTS that have to leave room
abbrev pub witnessed_terms : NamedTerm → NamedTerm → Nameless → List Nameless
witnessed_terms formula witness instance = image formula ∷ image witness ∷ instance ∷ []
