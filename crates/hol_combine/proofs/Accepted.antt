-- An accepted step names none but its own subgoals.
use Rattle.std.proofs.Common.{◌≡◌, ℕ, suc, ◌<◌, List, [], ◌∷◌, Bool, true, ◌&&◌, length, map, Option, Some, None, Result, Ok, Err, inl, inr, refl, sym, ap, subst, arith}
use Rattle.std.specs.Prelude.{slice_get, nat_le}
use Rattle.std.proofs.lemmas.Bool.{le-leb}
use Rattle.std.proofs.lemmas.Option.{slice_get_within}
use Rattle.std.proofs.lemmas.List.{length-map}
use Rattle.hol_model.specs.Logic.Logic.{false_term}
use Rattle.hol_model.specs.Logic.Theory.{Theory}
use Rattle.hol_model.specs.Derived.InferenceRules.{InferenceRule}
use Rattle.hol_model.specs.Derived.Inference.{given, rule_sequent}
use Rattle.hol_model.specs.Goals.Goals.{Sequent, Goal}
use Rattle.hol_model.specs.Goals.Justifications.{Justification, sub, named, lemma, by_rule, Parts, no_parts, part, NamedSequents, joined, sequent_over, sequents_over}
use Rattle.hol_model.specs.Goals.ValidSteps.{Step, supposed}
use Rattle.hol_model.specs.Goals.Replays.{Store}
use Rattle.hol_model.specs.Refining.HostFunctions.{IsAcceptable}
use Rattle.hol_just.specs.Subgoals.{subgoals_are_below, all_subgoals_are_below}

both : (p q : Bool) → p ≡ true → q ≡ true → (p && q) ≡ true
both p q first second = cc

-- what is made of something is made of something
made-of : {A B : Type 0} (found : Option A) (rest : A → Option B) (made : B) → given found rest ≡ Some made → (x : A) × (found ≡ Some x)
made-of None rest made is = cc
made-of (Some x) rest made is = (x, refl)

first-joined : {A : Type 0} (first : Option A) (rest : Option (List A)) (all : List A) → joined first rest ≡ Some all → (x : A) × (first ≡ Some x)
first-joined None rest all is = cc
first-joined (Some x) rest all is = (x, refl)

rest-joined : {A : Type 0} (first : Option A) (rest : Option (List A)) (all : List A) → joined first rest ≡ Some all → (xs : List A) × (rest ≡ Some xs)
rest-joined None rest all is = cc
rest-joined (Some x) None all is = cc
rest-joined (Some x) (Some xs) all is = (xs, refl)

module _ (theory : Theory) (store : NamedSequents) (sequents : List Sequent) where
  mutual
    sequent-below : (justification : Justification) (made : Sequent) → sequent_over theory store (slice_get sequents) justification ≡ Some made
        → subgoals_are_below (length sequents) justification ≡ true
    sequent-below (sub i) made is = let within = slice_get_within sequents i made is in le-leb (suc i) (length sequents) (omega (arith, within))
    sequent-below (named name) made is = refl
    sequent-below (lemma k) made is = refl
    sequent-below (by_rule rule parts) made is =
        let found = made-of (sequents_over theory store (slice_get sequents) parts) (rule_sequent theory rule) made is in
        sequents-below parts found.0 found.1

    sequents-below : (parts : Parts) (all : List Sequent) → sequents_over theory store (slice_get sequents) parts ≡ Some all → all_subgoals_are_below (length sequents) parts ≡ true
    sequents-below no_parts all is = refl
    sequents-below (part first rest) all is =
        let here = first-joined (sequent_over theory store (slice_get sequents) first) (sequents_over theory store (slice_get sequents) rest) all is in
        let others = rest-joined (sequent_over theory store (slice_get sequents) first) (sequents_over theory store (slice_get sequents) rest) all is in
        both (subgoals_are_below (length sequents) first) (all_subgoals_are_below (length sequents) rest) (sequent-below first here.0 here.1) (sequents-below rest others.0 others.1)

pub accepted-below : {theory : Theory} {store : Store} {goal : Goal} {step : Step} → IsAcceptable theory store goal step → subgoals_are_below (length step.goals) step.justification ≡ true
accepted-below {theory} {store} {step} accepted =
    let once = accepted.passes.once in
    let below = sequent-below theory _ (map (supposed false_term) step.goals) step.justification once.sequent once.is_made in
    rw (length-map step.goals (supposed false_term)) at below
