-- A variable put for a variable of its type keeps the height, the nodes and the types of a term.
use Rattle.std.proofs.Common.{◌≡◌, ◌⊎◌, ℕ, List, [], ◌∷◌, Bool, true, false, ◌&&◌, refl, sym, ◌∙◌, ap, subst, inl, inr, Option, Some, None, Result}
use Rattle.std.proofs.Common.{Ok, Err, IfOk, IfErr, IsTrue, if◌then◌else◌, nat_le, arith}
use Rattle.hol_model.specs.declared.fault.Fault.{Fault}
use Rattle.hol_model.specs.declared.fault.Fault.TheVariants.{Memory}
use Rattle.hol_model.specs.declared.limits.TheConstants.{TERM_NODES_LIMIT, TERM_HEIGHT_LIMIT}
use Rattle.hol_model.specs.Terms.HolType.{HolType, bool_type, function_type, codomain_of}
use Rattle.hol_model.specs.Terms.NamedTerm.{NamedTerm, variable, type_of, same_variable, type_fits, is_within_limits}
use Rattle.hol_model.specs.Terms.Nameless.{Nameless, free, const, bound, app, lam, image, nameless_type}
use Rattle.hol_model.specs.Terms.Measures.{nameless_height, nameless_nodes, nameless_types_fit, nameless_within_limits}
use Rattle.hol_model.specs.Terms.Substitution.{TermInstance, put, only, put_all}
use Rattle.hol_model.specs.Kernel.Outcome.{AnswersSuch}
use Rattle.hol_model.proofs.Terms.WithinLimits.{within_limits-image}
use Rattle.hol_model.proofs.Terms.Filling.{fill_at-close_at}
use Rattle.hol_model.proofs.Terms.HolTypeEq.{type_eq-self}
use Rattle.hol_model.proofs.Terms.Images.{image-typed}
use Rattle.hol_model.proofs.Tests.{same_variable-type}
use Rattle.hol_subst.specs.Outcomes.{vsubst_refusal}
use Rattle.hol_equal.specs.Room.{IsSized}
use Rattle.hol_equal.proofs.BetaLemmas.{one_pair}
use Rattle.hol_quant.specs.Witnesses.{witnessed}

-- a variable of its type stands for each variable
abbrev Renames : TermInstance → Type 0
Renames theta = (name : List ℕ) (ty : HolType) → (fresh : List ℕ) × (theta name ty ≡ free fresh ty)

only-renames : (name other : List ℕ) (ty : HolType) → Renames (only name ty (free other ty))
only-renames name other ty n s = go (same_variable name ty n s) refl
  where
    go : (test : Bool) → same_variable name ty n s ≡ test → (fresh : List ℕ) × ((if test then free other ty else free n s) ≡ free fresh s)
    go true is = (other, ap (free other) (same_variable-type name n ty s is))
    go false is = (n, refl)

module _ (theta : TermInstance) (renames : Renames theta) where
  height-put : (term : Nameless) → nameless_height (put theta term) ≡ nameless_height term
  height-put (free name ty) = ap nameless_height (renames name ty).1
  height-put (const name ty) = refl
  height-put (bound index) = refl
  height-put (app f x) = rw (height-put f, height-put x) refl
  height-put (lam ty body) = rw (height-put body) refl

  nodes-put : (term : Nameless) → nameless_nodes (put theta term) ≡ nameless_nodes term
  nodes-put (free name ty) = ap nameless_nodes (renames name ty).1
  nodes-put (const name ty) = refl
  nodes-put (bound index) = refl
  nodes-put (app f x) = rw (nodes-put f, nodes-put x) refl
  nodes-put (lam ty body) = rw (nodes-put body) refl

  type-put : (term : Nameless) (binders : List HolType) → nameless_type binders (put theta term) ≡ nameless_type binders term
  type-put (free name ty) binders = ap (nameless_type binders) (renames name ty).1
  type-put (const name ty) binders = refl
  type-put (bound index) binders = refl
  type-put (app f x) binders = ap codomain_of (type-put f binders)
  type-put (lam ty body) binders = ap (function_type ty) (type-put body (ty ∷ binders))

  types_fit-put : (term : Nameless) (binders : List HolType) → nameless_types_fit binders (put theta term) ≡ nameless_types_fit binders term
  types_fit-put (free name ty) binders = ap (nameless_types_fit binders) (renames name ty).1
  types_fit-put (const name ty) binders = refl
  types_fit-put (bound index) binders = refl
  types_fit-put (app f x) binders = λ i. types_fit-put f binders i && types_fit-put x binders i
  types_fit-put (lam ty body) binders = λ i. types_fit-put body (ty ∷ binders) i && type_fits (function_type ty (type-put body (ty ∷ binders) i))

  within-put : (term : Nameless) → nameless_within_limits (put theta term) ≡ nameless_within_limits term
  within-put term = λ i. nat_le (height-put term i) TERM_HEIGHT_LIMIT && nat_le (nodes-put term i) TERM_NODES_LIMIT && types_fit-put term [] i

module _ (name other : List ℕ) (ty : HolType) (body : NamedTerm) (typed : type_of body ≡ Some bool_type) where
  abbrev renamed : Nameless
  renamed = put (only name ty (free other ty)) (image body)

  witnessed-is : witnessed name ty body (variable other ty) ≡ renamed
  witnessed-is = fill_at-close_at name ty (free other ty) (image body) [] bool_type (image-typed body bool_type typed)

  abbrev pairs : List (NamedTerm × NamedTerm)
  pairs = (variable other ty, variable name ty) ∷ []

  put-is : put_all pairs (image body) ≡ renamed
  put-is = λ i. put (λ n s. one_pair (variable other ty) name ty n s i) (image body)

  pub put-witnessed : put_all pairs (image body) ≡ witnessed name ty body (variable other ty)
  put-witnessed = put-is ∙ sym witnessed-is

  -- so the substitution is not refused
  pub not-refused : nameless_within_limits (image body) ≡ true → vsubst_refusal pairs body ≡ None
  not-refused within =
      let fits : nameless_within_limits (put_all pairs (image body)) ≡ true = ap nameless_within_limits put-is
      ∙ within-put (only name ty (free other ty)) (only-renames name other ty) (image body) ∙ within in
      rw (type_eq-self ty, fits) refl

  pub witnessed-sized : (tall many : ℕ) → IsSized tall many (image body) → IsSized tall many (witnessed name ty body (variable other ty))
  witnessed-sized tall many sized =
      let theta = only name ty (free other ty) in
      let renames = only-renames name other ty in
      subst (λ (t : Nameless). IsSized tall many t) (sym witnessed-is) (record {
        height = let h = height-put theta renames (image body) in let a = sized.height in omega arith;
        nodes = let n = nodes-put theta renames (image body) in let a = sized.nodes in omega arith;
        types = types_fit-put theta renames (image body) [] ∙ sized.types;
      })

-- what the substitution answers

module _ (result : Result NamedTerm Fault) (theta : List (NamedTerm × NamedTerm)) (body binder argument : NamedTerm) (theta_is : theta ≡ (argument, binder) ∷ []) where
  abbrev Substituted : List (NamedTerm × NamedTerm) → Type 0
  Substituted theta = AnswersSuch result (vsubst_refusal theta body) (λ new. image new ≡ put_all theta (image body))

  at-variables : (name other : List ℕ) (ty : HolType) → binder ≡ variable name ty → argument ≡ variable other ty → Substituted theta → Substituted ((variable other ty, variable name ty) ∷ [])
  at-variables name other ty binder_is argument_is answers =
      subst Substituted (theta_is ∙ (λ i. (argument_is i, binder_is i) ∷ [])) answers

pub substituted-is : (result : Result NamedTerm Fault) (theta : List (NamedTerm × NamedTerm)) (body binder argument : NamedTerm)
    → theta ≡ (argument, binder) ∷ [] → AnswersSuch result (vsubst_refusal theta body) (λ new. image new ≡ put_all theta (image body))
    → IfOk result (λ made. (name other : List ℕ) (ty : HolType) → type_of body ≡ Some bool_type → binder ≡ variable name ty
    → argument ≡ variable other ty → image made ≡ witnessed name ty body argument)
substituted-is (Ok made) theta body binder argument theta_is answers = λ name other ty typed binder_is argument_is.
    (at-variables (Ok made) theta body binder argument theta_is name other ty binder_is argument_is answers).1 ∙ put-witnessed name other ty body typed ∙ ap (witnessed name ty body) (sym argument_is)
substituted-is (Err fault) theta body binder argument theta_is answers = tt

pub substituted-memory : (result : Result NamedTerm Fault) (theta : List (NamedTerm × NamedTerm)) (body binder argument : NamedTerm) → theta ≡ (argument, binder) ∷ [] → IsTrue (is_within_limits body)
    → AnswersSuch result (vsubst_refusal theta body) (λ new. image new ≡ put_all theta (image body))
    → IfErr result (λ fault. (name other : List ℕ) (ty : HolType) → type_of body ≡ Some bool_type → binder ≡ variable name ty → argument ≡ variable other ty → fault ≡ Memory)
substituted-memory (Ok made) theta body binder argument theta_is inside answers = tt
substituted-memory (Err fault) theta body binder argument theta_is inside answers = λ name other ty typed binder_is argument_is.
    only_memory fault (vsubst_refusal ((variable other ty, variable name ty) ∷ []) body) (not-refused name other ty body typed (within_limits-image body bool_type typed inside))
    (at-variables (Err fault) theta body binder argument theta_is name other ty binder_is argument_is answers)
  where
    only_memory : (fault : Fault) (refusal : Option Fault) → refusal ≡ None → (fault ≡ Memory) ⊎ (refusal ≡ Some fault) → fault ≡ Memory
    only_memory fault refusal none (inl memory) = memory
    only_memory fault refusal none (inr is) = cc
