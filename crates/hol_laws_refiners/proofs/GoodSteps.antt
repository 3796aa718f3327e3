-- Valid steps whose subgoals are known, and how they stay so while the store grows.
use Rattle.std.proofs.Common.{◌≡◌, ℕ, zero, suc, List, [], ◌∷◌, ◌++◌, map, Option, Some, None, refl, sym, ◌∙◌, ap, subst, ◌⊎◌, inl, inr}
use Rattle.std.specs.Prelude.{slice_get}
use Rattle.std.specs.Option.{option_map}
use Rattle.hol_model.specs.Logic.Theory.{Theory}
use Rattle.hol_model.specs.Logic.Derivable.{IsMember}
use Rattle.hol_model.specs.Kernel.Theorem.{Theorem}
use Rattle.hol_model.specs.Goals.Goals.{Goal, Sequent}
use Rattle.hol_model.proofs.Logic.Earlier.{earlier-same}
use Rattle.hol_model.proofs.Terms.Membership.{of_append}
use Rattle.hol_model.specs.Goals.Strength.{AnswersAsStrong}
use Rattle.hol_model.specs.Goals.ValidSteps.{Step, AreValid}
use Rattle.hol_model.specs.Goals.Splicing.{spliced, goals_of_steps}
use Rattle.hol_model.specs.Goals.JustificationLaws.{IsLaterStore}
use Rattle.hol_laws_steps.proofs.FewerHypotheses.{IsAsStrong-self}
use Rattle.hol_laws_steps.proofs.Splicing.{splices-valid}
use Rattle.hol_laws_steps.proofs.Growing.{stays-valid}
use Rattle.hol_model.specs.Goals.Replays.{Store, sequents_in, sequent_of_theorem, IsStoreOver, IsProvedOver, AreKnownGoals}
use Rattle.hol_model.specs.Refining.Combinators.{Stage, IsLater}
use Rattle.hol_model.specs.Goals.GoodSteps.{IsGoodStep}
use Rattle.hol_model.specs.Refining.RefinerConditions.{HasLogic}

as_strong-self : (answer : Option Sequent) → AnswersAsStrong answer answer
as_strong-self None = tt
as_strong-self (Some sequent) = IsAsStrong-self sequent

as_strong-same : (a b : Option Sequent) → a ≡ b → AnswersAsStrong a b
as_strong-same a b same = subst (AnswersAsStrong a) same (as_strong-self a)

-- a list is found in a longer one at the same places
get-more : (xs ys : List Sequent) (k : ℕ) → AnswersAsStrong (slice_get (xs ++ ys) k) (slice_get xs k)
get-more [] ys k = nothing (slice_get ys k)
  where
    nothing : (answer : Option Sequent) → AnswersAsStrong answer None
    nothing None = tt
    nothing (Some sequent) = tt
get-more (x ∷ xs) ys zero = IsAsStrong-self x
get-more (x ∷ xs) ys (suc k) = get-more xs ys k

map-append : (xs ys : List Theorem) → map sequent_of_theorem (xs ++ ys) ≡ map sequent_of_theorem xs ++ map sequent_of_theorem ys
map-append [] ys = refl
map-append (x ∷ xs) ys = ap (λ rest. sequent_of_theorem x ∷ rest) (map-append xs ys)

module _ (theory : Theory) where
  pub later-store : (before after : Stage) → IsLater theory before after → IsLaterStore (sequents_in before.store) (sequents_in after.store)
  later-store before after later = record {
    named = λ name. as_strong-same _ _ (ap (λ named. option_map sequent_of_theorem (named name)) later.named);
    lemmas = λ k. subst (λ (xs : List Sequent). AnswersAsStrong (slice_get xs k) (slice_get (map sequent_of_theorem before.store.lemmas) k))
        (sym (ap (map sequent_of_theorem) later.lemmas ∙ map-append before.store.lemmas later.added))
        (get-more (map sequent_of_theorem before.store.lemmas) (map sequent_of_theorem later.added) k);
  }

  pub good-later : HasLogic theory → (before after : Stage) (goal : Goal) (step : Step) → IsLater theory before after → IsGoodStep theory before.store goal step
      → IsGoodStep theory after.store goal step
  good-later logic before after goal step later good = record {
    valid = stays-valid theory theory (sequents_in before.store) (sequents_in after.store) (earlier-same theory theory refl) logic.legal (later-store before after later) goal step good.valid;
    known = good.known;
  }

  pub store-later : (before after : Stage) → IsLater theory before after → IsStoreOver theory before.store → IsStoreOver theory after.store
  store-later before after later over = record {
    named = λ name theorem is. over.named name theorem (sym (ap (λ named. named name) later.named) ∙ is);
    lemmas = λ theorem member. go theorem (of_append theorem before.store.lemmas later.added (subst (IsMember theorem) later.lemmas member));
  }
    where
      go : (theorem : Theorem) → IsMember theorem before.store.lemmas ⊎ IsMember theorem later.added → IsProvedOver theory theorem
      go theorem (inl member) = over.lemmas theorem member
      go theorem (inr member) = later.proved theorem member

  -- the steps are good for the goals, one by one
  abbrev pub AreGood : Store → List Goal → List Step → Type 0
  AreGood store [] [] = Unit {0}
  AreGood store (goal ∷ goals) (step ∷ steps) = IsGoodStep theory store goal step × AreGood store goals steps
  AreGood store _ _ = ⊥

  all-valid : (store : Store) (goals : List Goal) (steps : List Step) → AreGood store goals steps → AreValid theory (sequents_in store) goals steps
  all-valid store [] [] good = tt
  all-valid store [] (step ∷ steps) good = absurd good
  all-valid store (goal ∷ goals) [] good = absurd good
  all-valid store (goal ∷ goals) (step ∷ steps) good = (good.0.valid, all-valid store goals steps good.1)

  known-append : (xs ys : List Goal) → AreKnownGoals theory xs → AreKnownGoals theory ys → AreKnownGoals theory (xs ++ ys)
  known-append [] ys h k = k
  known-append (x ∷ xs) ys h k = (h.0, known-append xs ys h.1 k)

  all-known : (store : Store) (goals : List Goal) (steps : List Step) → AreGood store goals steps → AreKnownGoals theory (goals_of_steps steps)
  all-known store [] [] good = tt
  all-known store [] (step ∷ steps) good = absurd good
  all-known store (goal ∷ goals) [] good = absurd good
  all-known store (goal ∷ goals) (step ∷ steps) good = known-append step.goals (goals_of_steps steps) good.0.known (all-known store goals steps good.1)

  pub good-spliced : (store : Store) (goal : Goal) (step : Step) (steps : List Step) → IsGoodStep theory store goal step → AreGood store step.goals steps
      → IsGoodStep theory store goal (spliced step steps)
  good-spliced store goal step steps good each = record {
    valid = splices-valid theory (sequents_in store) goal step steps good.valid (all-valid store step.goals steps each);
    known = all-known store step.goals steps each;
  }
