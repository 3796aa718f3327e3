-- What a rule's outcome states against what the table draws: terms that come in, where the outcome walks them and the
-- table asks whether they are known, and hypotheses that pass unchanged.
use Rattle.std.proofs.Common.{◌≡◌, ℕ, List, [], ◌∷◌, ◌++◌, map, Bool, true, false, ◌&&◌, not, if◌then◌else◌, refl, sym, ◌∙◌, ap, subst, Option, Some, None, Result, Ok, Err}
use Rattle.std.specs.Option.{option_map_or}
use Rattle.std.specs.Str.{bytes_eq}
use Rattle.std.proofs.lemmas.Slice.Eq.{bytes_eq-Decides}
use Rattle.std.proofs.lemmas.List.{append-nil}
use Rattle.hol_model.specs.declared.fault.Fault.{Fault}
use Rattle.hol_model.specs.declared.fault.Fault.TheVariants.{UnknownType, UnknownConst, NotInstance}
use Rattle.hol_model.specs.Terms.HolType.{HolType, type_eq}
use Rattle.hol_model.specs.Terms.NamedTerm.{NamedTerm, variable, constant, combination, abstraction, type_of}
use Rattle.hol_model.specs.Terms.Nameless.{Nameless, const, image, same_term, nameless_type}
use Rattle.hol_model.specs.Logic.Theory.{Theory}
use Rattle.hol_model.specs.Logic.KnownTerm.{knows_types, knows_constants, has_instances, is_known}
use Rattle.hol_model.specs.Logic.Checks.{knows_nameless}
use Rattle.hol_model.specs.Goals.Goals.{Sequent}
use Rattle.hol_model.specs.Logic.Derivable.{IsSameSet}
use Rattle.hol_model.specs.Kernel.Outcome.{unless, refused}
use Rattle.hol_model.specs.Kernel.Rules.{first_unknown}
use Rattle.hol_model.specs.Derived.DerivedRules.{Stated, conclusion_image, is_of_type}
use Rattle.hol_model.proofs.Terms.HolTypeEq.{type_eq-Decides, type_eq-self}
use Rattle.hol_model.specs.Logic.NamedLogic.{is_constant_named}
use Rattle.hol_model.proofs.Tests.{same_answer, same_term-Decides}
use Rattle.hol_model.proofs.Terms.Typing.{nameless_type-is}
use Rattle.hol_model.proofs.Terms.Images.{image-type, image-typed}
use Rattle.hol_model.proofs.Terms.NamedTests.{is_known-Decides}
use Rattle.hol_model.proofs.Logic.Checks.{knows_nameless-Decides}
use Rattle.hol_model.specs.Derived.Inference.{Inference, given, require, unchanged, rule_sequent}
use Rattle.hol_model.specs.Kernel.Theorem.{Theorem}
use Rattle.hol_model.specs.Derived.InferenceRules.{InferenceRule}
use Rattle.hol_journal.specs.Steps.{sequent_of_theorem}
use Rattle.hol_equal.specs.Formulas.{IsFormula}

-- the sequent is the stated one: the hypotheses are a set
pub record IsStated (stated : Stated) (sequent : Sequent) : Type 0 where
  pub hypotheses : IsSameSet stated.hypotheses sequent.hypotheses
  pub conclusion : conclusion_image stated.conclusion ≡ sequent.conclusion

-- what is stated is drawn, and nothing is drawn where the rule is refused
abbrev pub StatesDrawn : Result Stated Fault → Option Sequent → Type 0
StatesDrawn (Ok stated) (Some sequent) = IsStated stated sequent
StatesDrawn (Ok stated) None = ⊥
StatesDrawn (Err fault) (Some sequent) = ⊥
StatesDrawn (Err fault) None = Unit {0}

-- the theorem's conclusion is a formula that the theory knows
abbrev pub IsPremise : Theory → Theorem → Type 0
IsPremise theory theorem = IsFormula theory theorem.conclusion

-- the rule states for its premises what the table draws from their sequents
abbrev pub Draws : Theory → InferenceRule → List Theorem → Result Stated Fault → Type 0
Draws theory rule premises outcome = StatesDrawn outcome (rule_sequent theory rule (map sequent_of_theorem premises))

-- a term with a type is known at a type where this is its type and its parts are known
pub knows-image : (theory : Theory) (term : NamedTerm) (ty s : HolType) → type_of term ≡ Some ty → knows_nameless theory (image term) s ≡ (type_eq ty s && is_known theory term)
knows-image theory term ty s typed =
    same_answer (knows_nameless theory (image term) s) (type_eq ty s && is_known theory term) to back
  where
    to : knows_nameless theory (image term) s ≡ true → (type_eq ty s && is_known theory term) ≡ true
    to passed =
        let known = (knows_nameless-Decides theory (image term) s).0 passed in
        let one : Some ty ≡ Some s = sym typed ∙ image-type term s known.typed in
        let same : ty ≡ s = cc in
        let tests = (is_known-Decides theory term s (typed ∙ one)).1 known in
        rw (same, type_eq-self s, tests) refl

    back : (type_eq ty s && is_known theory term) ≡ true → knows_nameless theory (image term) s ≡ true
    back passed = go (type_eq ty s) refl (is_known theory term) refl passed
      where
        go : (one : Bool) → type_eq ty s ≡ one → (two : Bool) → is_known theory term ≡ two → (one && two) ≡ true → knows_nameless theory (image term) s ≡ true
        go true is true tests both =
            let same = (type_eq-Decides ty s).0 is in
            (knows_nameless-Decides theory (image term) s).1 ((is_known-Decides theory term s (typed ∙ ap Some same)).0 tests)
        go true is false tests both = cc
        go false is two tests both = cc

-- a term that comes in is refused by an outcome where the table requires that it is known, and else both go on
module _ {A : Type 0} (R : Result A Fault → Option Sequent → Type 0) (none_drawn : (fault : Fault) → R (Err fault) None) where
  pub walked_by : (theory : Theory) (term : NamedTerm) (ty s : HolType) → type_of term ≡ Some ty → (fault : Fault) (next : Result A Fault) (inference : Inference) (rest : Inference → Option Sequent)
      → R next (rest inference)
      → R (unless (is_of_type s term) fault (refused (first_unknown theory term) next)) (given (require (knows_nameless theory (image term) s) (Some inference)) rest)
  walked_by theory term ty s typed fault next inference rest drawn =
      subst (λ (b : Bool). R (unless (option_map_or (λ found. type_eq found s) (type_of term) false) fault
      (refused (first_unknown theory term) next)) (given (require b (Some inference)) rest)) (sym (knows-image theory term ty s typed))
      (subst (λ (o : Option HolType).
      R (unless (option_map_or (λ found. type_eq found s) o false) fault (refused (first_unknown theory term) next))
      (given (require (type_eq ty s && is_known theory term) (Some inference)) rest)) (sym typed)
      (go (type_eq ty s) (knows_types theory term) (knows_constants theory term) (has_instances theory term)))
    where
      go : (one types constants instances : Bool)
          → R (unless one fault (refused (if not types then Some UnknownType else (if not constants then Some UnknownConst else (if not instances then Some NotInstance else None))) next))
          (given (require (one && ((types && constants) && instances)) (Some inference)) rest)
      go true true true true = drawn
      go true true true false = none_drawn NotInstance
      go true true false instances = none_drawn UnknownConst
      go true false constants instances = none_drawn UnknownType
      go false types constants instances = none_drawn fault

  -- so it is for a term of any type
  pub walked_known_by : (theory : Theory) (term : NamedTerm) (ty : HolType) → type_of term ≡ Some ty → (next : Result A Fault) (inference : Inference) (rest : Inference → Option Sequent)
      → R next (rest inference)
      → R (refused (first_unknown theory term) next) (given (require (knows_nameless theory (image term) (nameless_type [] (image term))) (Some inference)) rest)
  walked_known_by theory term ty typed next inference rest drawn =
      let is : nameless_type [] (image term) ≡ ty = nameless_type-is (image term) [] ty (image-typed term ty typed) in
      let test : is_of_type ty term ≡ true = ap (λ (o : Option HolType). option_map_or (λ found. type_eq found ty) o false) typed ∙ type_eq-self ty in
      subst (λ (s : HolType). R (refused (first_unknown theory term) next) (given (require (knows_nameless theory (image term) s) (Some inference)) rest)) (sym is)
      (subst (λ (b : Bool). R (unless b UnknownType (refused (first_unknown theory term) next)) (given (require (knows_nameless theory (image term) ty) (Some inference)) rest)) test
      (walked_by theory term ty ty typed UnknownType next inference rest drawn))

pub walked : (theory : Theory) (term : NamedTerm) (ty s : HolType) → type_of term ≡ Some ty → (fault : Fault) (next : Result Stated Fault) (inference : Inference) (rest : Inference → Option Sequent)
    → StatesDrawn next (rest inference)
    → StatesDrawn (unless (is_of_type s term) fault (refused (first_unknown theory term) next)) (given (require (knows_nameless theory (image term) s) (Some inference)) rest)
walked = walked_by StatesDrawn (λ fault. tt)

pub walked_known : (theory : Theory) (term : NamedTerm) (ty : HolType) → type_of term ≡ Some ty → (next : Result Stated Fault) (inference : Inference) (rest : Inference → Option Sequent)
    → StatesDrawn next (rest inference)
    → StatesDrawn (refused (first_unknown theory term) next) (given (require (knows_nameless theory (image term) (nameless_type [] (image term))) (Some inference)) rest)
walked_known = walked_known_by StatesDrawn (λ fault. tt)

-- a term that is no constant of the name is not one as an image
pub not-constant : (name : List ℕ) (ty : HolType) (term : NamedTerm) → is_constant_named name term ≡ false → same_term (image term) (const name ty) ≡ false
not-constant name ty term apart = go (same_term (image term) (const name ty)) refl
  where
    shape : (t : NamedTerm) → is_constant_named name t ≡ false → image t ≡ const name ty → true ≡ false
    shape (constant other s) apart is =
        let same : other ≡ name = cc in
        let equal : bytes_eq other name ≡ true = (bytes_eq-Decides other name).1 same in
        sym equal ∙ apart
    shape (variable other s) apart is = cc
    shape (combination f x) apart is = cc
    shape (abstraction other s body) apart is = cc

    go : (test : Bool) → same_term (image term) (const name ty) ≡ test → test ≡ false
    go false is = refl
    go true is = shape term apart ((same_term-Decides (image term) (const name ty)).0 is)

-- hypotheses

pub unchanged_all : (h : List Nameless) → map unchanged h ≡ h
unchanged_all [] = refl
unchanged_all (first ∷ rest) = ap (λ (all : List Nameless). first ∷ all) (unchanged_all rest)

pub one_premise : (h : List Nameless) → (map unchanged h ++ []) ≡ h
one_premise h = append-nil (map unchanged h) ∙ unchanged_all h

pub two_premises : (h k : List Nameless) → (map unchanged h ++ (map unchanged k ++ [])) ≡ (h ++ k)
two_premises h k = λ i. unchanged_all h i ++ one_premise k i

pub same_set : {h k : List Nameless} → h ≡ k → IsSameSet h k
same_set {h} {k} is = subst (λ (other : List Nameless). IsSameSet h other) is (record { to = λ x m. m; back = λ x m. m })
