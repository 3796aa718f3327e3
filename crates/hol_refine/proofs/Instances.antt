-- The body of an abstraction with a term for its variable, by substitution.
use Rattle.std.proofs.Common.{◌≡◌, ◌⊎◌, ℕ, List, [], ◌∷◌, Bool, true, false, refl, sym, ◌∙◌, ap, subst, inl, inr, Option, Some, None, if◌then◌else◌, Result, Ok, Err}
use Rattle.std.specs.Str.{bytes_eq}
use Rattle.std.proofs.lemmas.Slice.Eq.{bytes_eq-Decides}
use Rattle.hol_model.specs.Logic.NamedLogic.{Abstracted}
use Rattle.hol_model.proofs.Tests.{same_name, same_variable-type}
use Rattle.std.specs.Option.{option_map_or}
use Rattle.hol_model.specs.declared.fault.Fault.{Fault}
use Rattle.hol_model.specs.declared.fault.Fault.TheVariants.{Memory, TooLarge}
use Rattle.hol_model.specs.Terms.HolType.{HolType}
use Rattle.hol_model.specs.Terms.NamedTerm.{NamedTerm, variable, same_variable, type_of, is_within_limits}
use Rattle.hol_model.specs.Terms.Nameless.{Nameless, free, const, bound, app, lam, image}
use Rattle.hol_model.specs.Terms.Measures.{nameless_within_limits}
use Rattle.hol_model.specs.Terms.Substitution.{put, put_all, only, replacement}
use Rattle.hol_model.specs.Kernel.Instantiation.{or_too_large}
use Rattle.hol_model.specs.Derived.DerivedRules.{body_with}
use Rattle.hol_model.proofs.Terms.HolTypeEq.{type_eq-self}
use Rattle.hol_model.proofs.Terms.Images.{image-typed}
use Rattle.hol_model.proofs.Terms.Filling.{fill_at-close_at}
use Rattle.hol_model.proofs.Terms.WithinLimits.{within_limits-image}
use Rattle.hol_subst.specs.Outcomes.{vsubst_refusal, pairs_refusal}
use Rattle.hol_model.specs.Goals.Replays.{IsWant}
use Rattle.hol_refine.specs.TableAnswers.{abstracted, AnswersInstance, AnswersRenamed}

abbrev pub one_pair : NamedTerm → NamedTerm → List (NamedTerm × NamedTerm)
one_pair new old = (new, old) ∷ []

-- one pair puts for its variable alone
puts-one : (argument : NamedTerm) (name : List ℕ) (ty : HolType) (other : List ℕ) (s : HolType)
    → replacement (one_pair argument (variable name ty)) other s ≡ only name ty (image argument) other s
puts-one argument name ty other s = go (same_variable name ty other s)
  where
    go : (test : Bool) → option_map_or (λ (pair : NamedTerm × NamedTerm). image pair.0) (if◌then◌else◌ {A = Option (NamedTerm × NamedTerm)} test
        (Some (argument, variable name ty)) None) (free other s)
        ≡ (if test then image argument else free other s)
    go true = refl
    go false = refl

module _ (argument body new old : NamedTerm) (name : List ℕ) (ty whole : HolType) (typed : type_of argument ≡ Some ty) (body_typed : type_of body ≡ Some whole)
    (new_is : new ≡ argument) (old_is : old ≡ variable name ty) where
  pairs : one_pair new old ≡ one_pair argument (variable name ty)
  pairs = λ i. one_pair (new_is i) (old_is i)

  put-is : put_all (one_pair new old) (image body) ≡ body_with (abstracted name ty body) argument
  put-is =
      ap (λ (l : List (NamedTerm × NamedTerm)). put_all l (image body)) pairs
      ∙ (λ i. put (λ other s. puts-one argument name ty other s i) (image body))
      ∙ sym (fill_at-close_at name ty (image argument) (image body) [] whole (image-typed body whole body_typed))

  pub instance-made : (made : NamedTerm) (made_type : HolType) → type_of made ≡ Some made_type → is_within_limits made ≡ true → image made ≡ put_all (one_pair new old) (image body)
      → AnswersInstance (Ok made) (body_with (abstracted name ty body) argument)
  instance-made made made_type made_typed within is =
      let same : image made ≡ body_with (abstracted name ty body) argument = is ∙ put-is in
      (subst (λ (t : Nameless). nameless_within_limits t ≡ true) same (within_limits-image made made_type made_typed within), same)

  pub instance-refused : (fault : Fault) → (fault ≡ Memory) ⊎ (vsubst_refusal (one_pair new old) body ≡ Some fault)
      → IsWant fault (nameless_within_limits (body_with (abstracted name ty body) argument))
  instance-refused fault (inl memory) = inl memory
  instance-refused fault (inr refusal) =
      subst (λ (t : Nameless). IsWant fault (nameless_within_limits t)) put-is
      (past_of (nameless_within_limits (put_all (one_pair new old) (image body)))
      (ap (λ (o : Option Fault). or_too_large o (nameless_within_limits (put_all (one_pair new old) (image body)))) (sym passes) ∙ refusal))
    where
      passes : pairs_refusal (one_pair new old) ≡ None
      passes = ap pairs_refusal pairs ∙ rw (typed, type_eq-self ty) refl

      past_of : (fits : Bool) → or_too_large None fits ≡ Some fault → IsWant fault fits
      past_of true is = cc
      past_of false is = let large : TooLarge ≡ fault = cc in inr (sym large, refl)

-- a variable put in its own place
put-itself : (name : List ℕ) (ty : HolType) (t : Nameless) → put (only name ty (free name ty)) t ≡ t
put-itself name ty (free other s) = go (same_variable name ty other s) refl
  where
    go : (test : Bool) → same_variable name ty other s ≡ test → (if test then free name ty else free other s) ≡ free other s
    go true passed = λ i. free (same_name name other ty s passed i) (same_variable-type name other ty s passed i)
    go false failed = refl
put-itself name ty (const other s) = refl
put-itself name ty (bound index) = refl
put-itself name ty (app f x) = λ i. app (put-itself name ty f i) (put-itself name ty x i)
put-itself name ty (lam s body) = ap (λ b. lam s b) (put-itself name ty body)

-- the body itself is what the variable's own name makes
pub kept : (name fresh : List ℕ) (ty whole : HolType) (body made : NamedTerm) → type_of body ≡ Some whole → is_within_limits body ≡ true → bytes_eq fresh name ≡ true → made ≡ body
    → AnswersRenamed (Ok made) (abstracted name ty body) fresh
kept name fresh ty whole body made typed within same made_is =
    let named_so : fresh ≡ name = (bytes_eq-Decides fresh name).0 same in
    let filled : body_with (abstracted name ty body) (variable name ty) ≡ image body =
    fill_at-close_at name ty (free name ty) (image body) [] whole (image-typed body whole typed) ∙ put-itself name ty (image body) in
    let is : body_with (abstracted name ty body) (variable fresh ty) ≡ image body = ap (λ (n : List ℕ). body_with (abstracted name ty body) (variable n ty)) named_so ∙ filled in
    (ap nameless_within_limits is ∙ within_limits-image body whole typed within, rw same made_is)

pub changed : (name fresh : List ℕ) (ty : HolType) (body new : NamedTerm) (result : Result NamedTerm Fault) → bytes_eq fresh name ≡ false → new ≡ variable fresh ty
    → AnswersInstance result (body_with (abstracted name ty body) new) → AnswersRenamed result (abstracted name ty body) fresh
changed name fresh ty body new result differs is answers =
    go result (subst (λ (t : NamedTerm). AnswersInstance result (body_with (abstracted name ty body) t)) is answers)
  where
    go : (r : Result NamedTerm Fault) → AnswersInstance r (body_with (abstracted name ty body) (variable fresh ty)) → AnswersRenamed r (abstracted name ty body) fresh
    go (Ok made) answers = (answers.0, rw differs answers.1)
    go (Err fault) answers = answers

pub renamed_memory : (fault : Fault) (at : Abstracted) (fresh : List ℕ) → fault ≡ Memory → AnswersRenamed (Err fault) at fresh
renamed_memory fault at fresh memory = inl memory
