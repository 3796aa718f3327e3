-- A formula that is quantified over a variable.
use Rattle.std.specs.Prelude.{◌≡◌, ◌≤◌, ℕ, List, true}
use Rattle.hol_model.specs.Terms.HolType.{HolType, type_nodes}
use Rattle.hol_model.specs.Terms.NamedTerm.{NamedTerm, variable, abstraction}
use Rattle.hol_model.specs.Terms.Nameless.{Nameless, image}
use Rattle.hol_model.specs.Terms.Substitution.{close}
use Rattle.hol_model.specs.Logic.Theory.{Theory, IsKnownType}
use Rattle.hol_model.specs.Logic.Logic.{forall_term}
use Rattle.hol_model.specs.Logic.Derivable.{NotFreeInAny}
use Rattle.hol_model.specs.Kernel.Theorem.{Theorem}
use Rattle.hol_model.specs.Derived.DerivedRules.{images, ROOMY_TYPE_NODES}
use Rattle.hol_equal.specs.Room.{Room, FitsIf}

-- !x. p
abbrev pub for_all : List ℕ → HolType → NamedTerm → Nameless
for_all name ty body = forall_term ty (close name ty (image body))

-- a variable of a known type
pub record IsKnownVariable (theory : Theory) (term : NamedTerm) : Type 0 where
  pub name : List ℕ
  pub ty : HolType
  pub is : term ≡ variable name ty
  pub known : IsKnownType theory ty

-- and the abstraction of a term over it
pub record IsAbstracted (theory : Theory) (binder body function : NamedTerm) : Type 0 where
  pub name : List ℕ
  pub ty : HolType
  pub binder_is : binder ≡ variable name ty
  pub type_known : IsKnownType theory ty
  pub function_is : function ≡ abstraction name ty body

-- and one that is free in no hypothesis
pub record MayGeneralize (theory : Theory) (premise : Theorem) (binder : NamedTerm) (name : List ℕ) (ty : HolType) : Type 0 where
  pub binder_is : binder ≡ variable name ty
  pub type_known : IsKnownType theory ty
  pub fresh : NotFreeInAny name ty (images premise)

-- where there is room, the quantified formula fits, and the variable's type leaves room
pub record FitsForAll (room : Room) (name : List ℕ) (ty : HolType) (body : NamedTerm) : Type 0 where
  pub formula : FitsIf room (for_all name ty body)
  pub few : room ≡ true → type_nodes ty ≤ ROOMY_TYPE_NODES
