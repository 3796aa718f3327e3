-- What CHOOSE puts together: an existential formula, its body at a variable, and what suffices for a formula.
use Rattle.std.specs.Prelude.{◌≡◌, ℕ, List, [], ◌∷◌, Bool, Some}
use Rattle.std.specs.List.{list_all}
use Rattle.hol_model.specs.Terms.HolType.{HolType, bool_type}
use Rattle.hol_model.specs.Terms.NamedTerm.{NamedTerm, variable, abstraction, type_of}
use Rattle.hol_model.specs.Terms.Nameless.{Nameless, const, bound, app, image}
use Rattle.hol_model.specs.Terms.Substitution.{close, fill}
use Rattle.hol_model.specs.Logic.Theory.{Theory, IsKnown, IsKnownType}
use Rattle.hol_model.specs.Logic.Logic.{exists_name, predicate, quantifier, implication, forall_term}
use Rattle.hol_model.specs.Logic.Derivable.{NotFreeInAny, without}
use Rattle.hol_model.specs.Kernel.Theorem.{Theorem}
use Rattle.hol_model.specs.Derived.DerivedRules.{images, is_roomy}
use Rattle.hol_equal.specs.Conversions.{closed}

-- an abstraction of a formula, its variable and another variable of the type, all of them known
pub record IsAtVariable (theory : Theory) (function binder argument : NamedTerm) : Type 0 where
  pub name : List ℕ
  pub other : List ℕ
  pub ty : HolType
  pub body : NamedTerm
  pub function_is : function ≡ abstraction name ty body
  pub binder_is : binder ≡ variable name ty
  pub argument_is : argument ≡ variable other ty
  pub body_typed : type_of body ≡ Some bool_type
  pub function_known : IsKnown theory (closed name ty body) (predicate ty)
  pub type_known : IsKnownType theory ty

-- ?x. p
abbrev pub existential : List ℕ → HolType → NamedTerm → Nameless
existential name ty body = app (const exists_name (quantifier ty)) (closed name ty body)

-- (\x. p) v
abbrev pub redex : List ℕ → HolType → NamedTerm → NamedTerm → Nameless
redex name ty body argument = app (closed name ty body) (image argument)

-- p[v/x]
abbrev pub witnessed : List ℕ → HolType → NamedTerm → NamedTerm → Nameless
witnessed name ty body argument = fill (image argument) (close name ty (image body))

-- a theorem of ?x. p, and one of q, where the variable v is free neither in ?x. p nor in q nor in a hypothesis of q but p[v/x]
pub record MayChoose (theory : Theory) (function binder argument : NamedTerm) (first second : Theorem) : Type 0 where
  pub at : IsAtVariable theory function binder argument
  pub first_is : image first.conclusion ≡ existential at.name at.ty at.body
  pub fresh : NotFreeInAny at.other at.ty
      (existential at.name at.ty at.body ∷ image second.conclusion ∷ without (witnessed at.name at.ty at.body argument) (images second))

-- !x. P x ==> q
abbrev pub suffices : HolType → Nameless → Nameless → Nameless
suffices ty function formula = forall_term ty (implication (app function (bound 0)) formula)

-- (!x. P x ==> q) ==> q
abbrev pub eliminates : HolType → Nameless → Nameless → Nameless
eliminates ty function formula = implication (suffices ty function formula) formula

-- the existential formula and the formula that it leads to leave room
abbrev pub leave_room : List ℕ → HolType → NamedTerm → NamedTerm → Bool
leave_room name ty body formula = list_all is_roomy (existential name ty body ∷ image formula ∷ [])
