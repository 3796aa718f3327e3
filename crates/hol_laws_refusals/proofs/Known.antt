-- Known terms: their parts, the tests that they pass, and what is put together of them.
use Rattle.std.proofs.Common.{◌≡◌, ℕ, suc, List, [], ◌∷◌, Bool, true, false, not, ◌&&◌, refl, sym, subst, Some, None, if◌then◌else◌}
use Rattle.hol_model.specs.declared.fault.Fault.TheVariants.{UnknownType, UnknownConst, NotInstance}
use Rattle.hol_model.specs.Terms.HolType.{HolType, type_variable, bool_type, function_type}
use Rattle.hol_model.specs.Terms.NamedTerm.{NamedTerm, combination, abstraction, equation, same_variable}
use Rattle.hol_model.specs.Terms.Nameless.{Nameless, free, const, bound, app, lam, HasType, image}
use Rattle.hol_model.specs.Terms.Substitution.{close_at}
use Rattle.hol_model.specs.Logic.Theory.{Theory, IsLegal, IsKnown, IsKnownType, HasKnownParts, IsKnownConstant, type_a}
use Rattle.hol_model.specs.Logic.KnownTerm.{knows_types, knows_constants, has_instances}
use Rattle.hol_model.specs.Logic.Logic.{true_name, true_term, not_name, unary, forall_name, forall_term, quantifier}
use Rattle.hol_model.specs.Logic.NamelessLogic.{negation}
use Rattle.hol_model.specs.Kernel.Theorem.{Theorem}
use Rattle.hol_model.specs.Kernel.Rules.{first_unknown, is_formula}
use Rattle.hol_model.specs.Goals.Replays.{IsProvedOver}
use Rattle.hol_model.specs.Refining.RefinerConditions.{HasLogic}
use Rattle.hol_model.proofs.Tests.{same_variable-type}
use Rattle.hol_model.proofs.Logic.Later.{Derivable-earlier}
use Rattle.hol_model.proofs.Logic.Known.{equation-known, Derivable-known}
use Rattle.hol_model.proofs.Terms.Images.{image-typed, image-type, image_under-type, image_under-closed, image-equation}
use Rattle.hol_model.proofs.Terms.NamedTests.{is_known-Decides}
use Rattle.hol_laws_refiners.proofs.FormulaParts.{logical-type}

-- known formulas
abbrev pub IsFormula : Theory → Nameless → Type 0
IsFormula theory t = IsKnown theory t bool_type

abbrev pub AreFormulas : Theory → List Nameless → Type 0
AreFormulas theory [] = Unit {0}
AreFormulas theory (t ∷ ts) = IsFormula theory t × AreFormulas theory ts

-- what is closed over a variable of a known type has known parts where the closed term has
pub closed-parts : (theory : Theory) (passed : ℕ) (n : List ℕ) (a : HolType) → IsKnownType theory a → (t : Nameless) → HasKnownParts theory (close_at passed n a t) → HasKnownParts theory t
closed-parts theory passed n a known (free m b) p = go (same_variable n a m b) refl p
  where
    go : (test : Bool) → same_variable n a m b ≡ test → HasKnownParts theory (if test then bound passed else free m b) → IsKnownType theory b
    go true same p = subst (λ (c : HolType). IsKnownType theory c) (same_variable-type n m a b same) known
    go false other p = p
closed-parts theory passed n a known (const m b) p = p
closed-parts theory passed n a known (bound i) p = tt
closed-parts theory passed n a known (app f x) p = (closed-parts theory passed n a known f p.0, closed-parts theory passed n a known x p.1)
closed-parts theory passed n a known (lam b t) p = (p.0, closed-parts theory (suc passed) n a known t p.1)

-- ---- parts of a known term

pub record KnownParts (theory : Theory) (f x : NamedTerm) (ty : HolType) : Type 0 where
  pub domain : HolType
  pub function : IsKnown theory (image f) (function_type domain ty)
  pub argument : IsKnown theory (image x) domain

pub combination-parts : (theory : Theory) (f x : NamedTerm) (ty : HolType) → IsKnown theory (image (combination f x)) ty → KnownParts theory f x ty
combination-parts theory f x ty known = record {
  domain = known.typed.0;
  function = record { typed = known.typed.1; parts = known.parts.0 };
  argument = record { typed = known.typed.2; parts = known.parts.1 };
}

pub record KnownBody (theory : Theory) (ty s : HolType) (body : NamedTerm) : Type 0 where
  pub binder : IsKnownType theory ty
  pub codomain : HolType
  pub whole : function_type ty codomain ≡ s
  pub known : IsKnown theory (image body) codomain

pub abstraction-parts : (theory : Theory) (name : List ℕ) (ty s : HolType) (body : NamedTerm) → IsKnown theory (image (abstraction name ty body)) s → KnownBody theory ty s body
abstraction-parts theory name ty s body known =
    let closed : HasKnownParts theory (close_at 0 name ty (image body)) = subst (λ (t : Nameless). HasKnownParts theory t) (image_under-closed [] name ty body) known.parts.1 in
    record {
      binder = known.parts.0;
      codomain = known.typed.0;
      whole = known.typed.2;
      known = record {
        typed = image-typed body known.typed.0 (image_under-type ((name, ty) ∷ []) body known.typed.0 known.typed.1);
        parts = closed-parts theory 0 name ty known.parts.0 (image body) closed;
      };
    }

-- the sides that were found are the sides
pub same_pair : (a b : NamedTerm × NamedTerm) → Some a ≡ Some b → a ≡ b
same_pair a b is = cc

-- ---- tests

pub no-unknown : (theory : Theory) (t : NamedTerm) (ty : HolType) → IsKnown theory (image t) ty → first_unknown theory t ≡ None
no-unknown theory t ty known =
    go (knows_types theory t) (knows_constants theory t) (has_instances theory t) ((is_known-Decides theory t ty (image-type t ty known.typed)).1 known)
  where
    go : (a b c : Bool) → (a && b && c) ≡ true → (if not a then Some UnknownType else (if not b then Some UnknownConst else (if not c then Some NotInstance else None))) ≡ None
    go true true true passed = refl
    go true true false passed = cc
    go true false c passed = cc
    go false b c passed = cc

pub is-formula : (theory : Theory) (t : NamedTerm) → IsKnown theory (image t) bool_type → is_formula t ≡ true
is-formula theory t known = rw (image-type t bool_type known.typed) refl

-- ---- put together

pub sides-known : (theory : Theory) → IsLegal theory → (l r : NamedTerm) (ty : HolType) → IsKnown theory (image l) ty → IsKnown theory (image r) ty → IsKnown theory (image (equation l r)) bool_type
sides-known theory legal l r ty left right =
    subst (λ (t : Nameless). IsKnown theory t bool_type) (sym (image-equation l r ty (image-type l ty left.typed))) (equation-known theory legal ty (image l) (image r) left right)

pub true-known : (theory : Theory) → HasLogic theory → IsKnown theory true_term bool_type
true-known theory has = record {
  typed = refl;
  parts = (tt, record { generic = bool_type; is_generic = logical-type theory has true_name bool_type refl; is_instance = record { instance = type_variable; is_instance = refl } });
}

pub negation-known : (theory : Theory) → HasLogic theory → (p : Nameless) → IsKnown theory p bool_type → IsKnown theory (negation p) bool_type
negation-known theory has p known =
    let there : IsKnownConstant theory not_name unary =
    record { generic = unary; is_generic = logical-type theory has not_name unary refl; is_instance = record { instance = type_variable; is_instance = refl } } in
    record { typed = (bool_type, refl, known.typed); parts = (((tt, tt), there), known.parts) }

pub forall-known : (theory : Theory) → HasLogic theory → (ty : HolType) (body : Nameless) → IsKnownType theory ty → HasType (ty ∷ []) body bool_type → HasKnownParts theory body
    → IsKnown theory (forall_term ty body) bool_type
forall-known theory has ty body known typed parts =
    let there : IsKnownConstant theory forall_name (quantifier ty) =
    record { generic = quantifier type_a; is_generic = logical-type theory has forall_name (quantifier type_a) refl; is_instance = record { instance = λ v. ty; is_instance = refl } } in
    record { typed = (function_type ty bool_type, refl, (bool_type, typed, refl)); parts = ((((known, tt), tt), there), (known, parts)) }

-- ---- theorems

pub theorem-known : (theory : Theory) → IsLegal theory → (theorem : Theorem) → IsProvedOver theory theorem → IsKnown theory (image theorem.conclusion) bool_type
theorem-known theory legal theorem proved = (Derivable-known theory legal (Derivable-earlier theorem.theory theory proved.earlier legal _ _ proved.proved.derivable)).conclusion
