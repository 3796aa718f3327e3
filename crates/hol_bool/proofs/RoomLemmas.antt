-- Formulas that are made where there is room.
use Rattle.std.proofs.Common.{◌≡◌, ℕ, List, [], Bool, true, false, refl, sym, subst, Some, Result, Ok, Err, arith}
use Rattle.hol_model.specs.declared.fault.Fault.{Fault}
use Rattle.hol_model.specs.Terms.HolType.{HolType, bool_type}
use Rattle.hol_model.specs.Terms.NamedTerm.{NamedTerm, constant, combination, equation, type_of}
use Rattle.hol_model.specs.Terms.Nameless.{Nameless, app, image}
use Rattle.hol_model.specs.Terms.Measures.{nameless_types_fit, nameless_within_limits}
use Rattle.hol_model.specs.Logic.Logic.{binary, unary}
use Rattle.hol_model.specs.Logic.NamedLogic.{connected, negation}
use Rattle.hol_model.specs.Logic.Derivable.{nameless_equation}
use Rattle.hol_model.specs.Kernel.Outcome.{Answers}
use Rattle.hol_model.specs.Kernel.Constructors.{combination_outcome}
use Rattle.hol_model.proofs.Terms.Images.{image-equation}
use Rattle.hol_model.proofs.Tests.{first_of_both, second_of_both}
use Rattle.hol_kernel.proofs.LimitLemmas.{applied}
use Rattle.hol_equal.specs.Sequents.{IsPast}
use Rattle.hol_equal.specs.Room.{FitsIf, MakesIf}
use Rattle.hol_equal.proofs.Sizes.{sized-within, past-room}
use Rattle.hol_equal.proofs.BetaLemmas.{applied-past}

pub fits-within : (room : Bool) (term : Nameless) → FitsIf room term → room ≡ true → nameless_within_limits term ≡ true
fits-within room term fits is = sized-within 1900 900000 term (fits is) (omega arith) (omega arith)

pub fits-function : (room : Bool) (f x : Nameless) → FitsIf room (app f x) → FitsIf room f
fits-function room f x fits is =
    let whole = fits is in
    record {
      height = let a = whole.height in omega arith;
      nodes = let a = whole.nodes in omega arith;
      types = first_of_both (nameless_types_fit [] f) (nameless_types_fit [] x) whole.types;
    }

pub made-combination : (result : Result NamedTerm Fault) (f x : NamedTerm) (ty : HolType) (room : Bool) → type_of (combination f x) ≡ Some ty
    → FitsIf room (image (combination f x)) → Answers result (combination_outcome f x)
    → MakesIf room result (combination f x)
made-combination (Ok made) f x ty room typed fits answers = (applied f x made answers).is
made-combination (Err fault) f x ty room typed fits answers =
    past-room fault (nameless_within_limits (image (combination f x))) room (applied-past fault f x ty typed answers) (fits-within room (image (combination f x)) fits)

pub half-typed : (name : List ℕ) (left : NamedTerm) → type_of left ≡ Some bool_type → type_of (combination (constant name binary) left) ≡ Some unary
half-typed name left typed = rw typed refl

pub connected-typed : (name : List ℕ) (left right : NamedTerm) → type_of left ≡ Some bool_type → type_of right ≡ Some bool_type → type_of (connected name left right) ≡ Some bool_type
connected-typed name left right left_typed right_typed = rw (left_typed, right_typed) refl

pub negation-typed : (part : NamedTerm) → type_of part ≡ Some bool_type → type_of (negation part) ≡ Some bool_type
negation-typed part typed = rw typed refl

-- what calls that make equations and formulas of connectives answer

abbrev pub MakesEquation : Result NamedTerm Fault → NamedTerm → NamedTerm → Type 0
MakesEquation result l r = (room : Bool) → type_of l ≡ Some bool_type → type_of r ≡ Some bool_type → FitsIf room (image (equation l r)) → MakesIf room result (equation l r)

abbrev pub MakesConnected : Result NamedTerm Fault → List ℕ → NamedTerm → NamedTerm → Type 0
MakesConnected result name l r = (room : Bool) → type_of l ≡ Some bool_type → type_of r ≡ Some bool_type → FitsIf room (image (connected name l r)) → MakesIf room result (connected name l r)

no_room : (term : Nameless) → FitsIf false term
no_room term is = cc

pub equation-is : (made l r s t : NamedTerm) → type_of l ≡ Some bool_type → type_of r ≡ Some bool_type → s ≡ l → t ≡ r → MakesEquation (Ok made) s t → made ≡ equation l r
equation-is made l r s t l_typed r_typed s_is t_is makes =
    let moved = subst (λ (u : NamedTerm). MakesEquation (Ok made) u r) s_is (subst (λ (u : NamedTerm). MakesEquation (Ok made) s u) t_is makes) in
    moved false l_typed r_typed (no_room (image (equation l r)))

pub equation-past : (fault : Fault) (l r s t : NamedTerm) → type_of l ≡ Some bool_type → type_of r ≡ Some bool_type → s ≡ l → t ≡ r → MakesEquation (Err fault) s t
    → (room : Bool) → FitsIf room (nameless_equation bool_type (image l) (image r)) → IsPast fault room
equation-past fault l r s t l_typed r_typed s_is t_is makes room fits =
    let moved = subst (λ (u : NamedTerm). MakesEquation (Err fault) u r) s_is (subst (λ (u : NamedTerm). MakesEquation (Err fault) s u) t_is makes) in
    moved room l_typed r_typed (subst (λ (u : Nameless). FitsIf room u) (sym (image-equation l r bool_type l_typed)) fits)

pub connected-is : (made : NamedTerm) (name : List ℕ) (l r s t : NamedTerm) → type_of l ≡ Some bool_type → type_of r ≡ Some bool_type → s ≡ l → t ≡ r
    → MakesConnected (Ok made) name s t → made ≡ connected name l r
connected-is made name l r s t l_typed r_typed s_is t_is makes =
    let moved = subst (λ (u : NamedTerm). MakesConnected (Ok made) name u r) s_is (subst (λ (u : NamedTerm). MakesConnected (Ok made) name s u) t_is makes) in
    moved false l_typed r_typed (no_room (image (connected name l r)))

pub connected-past : (fault : Fault) (name : List ℕ) (l r s t : NamedTerm) → type_of l ≡ Some bool_type → type_of r ≡ Some bool_type → s ≡ l → t ≡ r → MakesConnected (Err fault) name s t
    → (room : Bool) → FitsIf room (image (connected name l r)) → IsPast fault room
connected-past fault name l r s t l_typed r_typed s_is t_is makes room fits =
    let moved = subst (λ (u : NamedTerm). MakesConnected (Err fault) name u r) s_is (subst (λ (u : NamedTerm). MakesConnected (Err fault) name s u) t_is makes) in
    moved room l_typed r_typed fits

abbrev pub MakesNegation : Result NamedTerm Fault → NamedTerm → Type 0
MakesNegation result part = (room : Bool) → type_of part ≡ Some bool_type → FitsIf room (image (negation part)) → MakesIf room result (negation part)

pub negation-is : (made part : NamedTerm) → type_of part ≡ Some bool_type → MakesNegation (Ok made) part → made ≡ negation part
negation-is made part typed makes = makes false typed (no_room (image (negation part)))

pub fits-argument : (room : Bool) (f x : Nameless) → FitsIf room (app f x) → FitsIf room x
fits-argument room f x fits is =
    let whole = fits is in
    record {
      height = let a = whole.height in omega arith;
      nodes = let a = whole.nodes in omega arith;
      types = second_of_both (nameless_types_fit [] f) (nameless_types_fit [] x) whole.types;
    }

-- the sides of what is an application of two arguments
pub fits-left : (room : Bool) (f l r : Nameless) → FitsIf room (app (app f l) r) → FitsIf room l
fits-left room f l r fits = fits-argument room f l (fits-function room (app f l) r fits)
