-- Replaying justifications: which theorems they may name, where a replay has room, and what replays answer.
use Rattle.std.specs.Prelude.{◌≡◌, ◌⊎◌, ℕ, ◌+◌, max, List, [], ◌∷◌, ◌++◌, map, Bool, true, false, ◌&&◌, Option, Some, None, Result, Ok, Err, slice_get, nat_le}
use Rattle.std.specs.List.{list_all}
use Rattle.std.specs.Option.{option_map}
use Rattle.hol_model.specs.declared.fault.Fault.{Fault}
use Rattle.hol_model.specs.declared.fault.Fault.TheVariants.{Memory, TooLarge, InvalidStep}
use Rattle.hol_model.specs.declared.limits.TheConstants.{JUSTIFICATION_DEPTH_LIMIT}
use Rattle.hol_model.specs.Terms.HolType.{bool_type}
use Rattle.hol_model.specs.Terms.NamedTerm.{NamedTerm}
use Rattle.hol_model.specs.Terms.Nameless.{Nameless, image}
use Rattle.hol_model.specs.Logic.Theory.{Theory, IsEarlier, IsKnown}
use Rattle.hol_model.specs.Logic.Derivable.{IsSameSet, IsMember}
use Rattle.hol_model.specs.Logic.Logic.{false_term}
use Rattle.hol_model.specs.Kernel.Theorem.{Theorem, IsTheorem}
use Rattle.hol_model.specs.Derived.DerivedRules.{is_roomy}
use Rattle.hol_model.specs.Goals.Goals.{Sequent, Goal}
use Rattle.hol_model.specs.Derived.InferenceRules.{InferenceRule}
use Rattle.hol_model.specs.declared.rule.Rule.TheVariants as rules
use Rattle.hol_model.specs.Goals.Justifications.{Justification, sub, named, lemma, by_rule, Parts, no_parts, part, NamedSequents, sequent_over, Subgoals, sequent_of}
use Rattle.hol_model.specs.Goals.ValidSteps.{Step, supposed, false_twice}

-- ---- the theorems that a justification may name

-- the theorems stored under names, and the lemmas, which conversions have proved, in their order
pub record Store : Type 0 where
  pub named : List ℕ → Option Theorem
  pub lemmas : List Theorem

abbrev pub sequent_of_theorem : Theorem → Sequent
sequent_of_theorem theorem = record { hypotheses = map image theorem.hypotheses; conclusion = image theorem.conclusion }

abbrev pub sequents_in : Store → NamedSequents
sequents_in store = record { named = λ name. option_map sequent_of_theorem (store.named name); lemmas = map sequent_of_theorem store.lemmas }

abbrev pub with_lemma : Store → Theorem → Store
with_lemma store theorem = record { named = store.named; lemmas = store.lemmas ++ theorem ∷ [] }

-- the theorem is one of the theory, or of an earlier state of it
pub record IsProvedOver (theory : Theory) (theorem : Theorem) : Type 0 where
  pub proved : IsTheorem theorem
  pub earlier : IsEarlier theorem.theory theory

pub record IsStoreOver (theory : Theory) (store : Store) : Type 0 where
  pub named : (name : List ℕ) (theorem : Theorem) → store.named name ≡ Some theorem → IsProvedOver theory theorem
  pub lemmas : (theorem : Theorem) → IsMember theorem store.lemmas → IsProvedOver theory theorem

-- ---- goals of known terms

-- each assumption and the target are formulas that the theory knows
pub record IsKnownGoal (theory : Theory) (goal : Goal) : Type 0 where
  pub assumptions : (term : NamedTerm) → IsMember term goal.assumptions → IsKnown theory (image term) bool_type
  pub target : IsKnown theory (image goal.target) bool_type

abbrev pub AreKnownGoals : Theory → List Goal → Type 0
AreKnownGoals theory [] = Unit {0}
AreKnownGoals theory (goal ∷ goals) = IsKnownGoal theory goal × AreKnownGoals theory goals

-- ---- depth

-- the depth of a justification's tree
abbrev mutual
  pub depth : Justification → ℕ
  depth (sub i) = 1
  depth (named name) = 1
  depth (lemma k) = 1
  depth (by_rule rule parts) = depth_of_parts parts + 1

  pub depth_of_parts : Parts → ℕ
  depth_of_parts no_parts = 0
  depth_of_parts (part first rest) = max (depth first) (depth_of_parts rest)

abbrev pub is_within_depth : Justification → Bool
is_within_depth justification = nat_le (depth justification) JUSTIFICATION_DEPTH_LIMIT

-- ---- room

abbrev pub images_of_pairs : List (NamedTerm × NamedTerm) → List Nameless
images_of_pairs [] = []
images_of_pairs (pair ∷ pairs) = image pair.0 ∷ image pair.1 ∷ images_of_pairs pairs

-- the terms that a rule takes
abbrev pub terms_of_rule : InferenceRule → List Nameless
terms_of_rule (rules.Refl t) = image t ∷ []
terms_of_rule (rules.Abs x) = image x ∷ []
terms_of_rule (rules.Beta t) = image t ∷ []
terms_of_rule (rules.Assume p) = image p ∷ []
terms_of_rule (rules.Inst theta) = images_of_pairs theta.items
terms_of_rule (rules.AddAssum p) = image p ∷ []
terms_of_rule (rules.BetaConv t) = image t ∷ []
terms_of_rule (rules.Disch p) = image p ∷ []
terms_of_rule (rules.Spec t) = image t ∷ []
terms_of_rule (rules.Gen x) = image x ∷ []
terms_of_rule (rules.Disj1 q) = image q ∷ []
terms_of_rule (rules.Disj2 p) = image p ∷ []
terms_of_rule (rules.Contr p) = image p ∷ []
terms_of_rule (rules.Exists e w) = image e ∷ image w ∷ []
terms_of_rule (rules.Choose v) = image v ∷ []
terms_of_rule rule = []

abbrev pub terms_of_sequent : Option Sequent → List Nameless
terms_of_sequent None = []
terms_of_sequent (Some sequent) = sequent.conclusion ∷ sequent.hypotheses

-- each term that the tree's rules take, and each term of the sequents of its parts, leaves room
abbrev mutual
  pub has_room_over : Theory → NamedSequents → Subgoals → Justification → Bool
  has_room_over theory store subgoals (sub i) = list_all is_roomy (terms_of_sequent (subgoals i))
  has_room_over theory store subgoals (named name) = list_all is_roomy (terms_of_sequent (store.named name))
  has_room_over theory store subgoals (lemma k) = list_all is_roomy (terms_of_sequent (slice_get store.lemmas k))
  has_room_over theory store subgoals (by_rule rule parts) =
      list_all is_roomy (terms_of_rule rule ++ terms_of_sequent (sequent_over theory store subgoals (by_rule rule parts)))
      && have_room_over theory store subgoals parts

  pub have_room_over : Theory → NamedSequents → Subgoals → Parts → Bool
  have_room_over theory store subgoals no_parts = true
  have_room_over theory store subgoals (part first rest) = has_room_over theory store subgoals first && have_room_over theory store subgoals rest

abbrev pub has_room : Theory → NamedSequents → List Sequent → Justification → Bool
has_room theory store sequents justification = has_room_over theory store (slice_get sequents) justification

-- ---- what a replay answers

-- the theorem has the sequent, hypotheses as a set
pub record HasSequent (sequent : Sequent) (theorem : Theorem) : Type 0 where
  pub hypotheses : IsSameSet (map image theorem.hypotheses) sequent.hypotheses
  pub conclusion : image theorem.conclusion ≡ sequent.conclusion

-- there is no memory, or there is no room
abbrev pub IsWant : Fault → Bool → Type 0
IsWant fault room = (fault ≡ Memory) ⊎ ((fault ≡ TooLarge) × (room ≡ false))

-- a theorem of the justification's sequent, where it has one, and else the refusal of the step
abbrev pub AnswersReplay : Bool → Option Sequent → Result Theorem Fault → Type 0
AnswersReplay room (Some sequent) (Ok theorem) = HasSequent sequent theorem
AnswersReplay room (Some sequent) (Err fault) = IsWant fault room
AnswersReplay room None (Ok theorem) = ⊥
AnswersReplay room None (Err fault) = (fault ≡ InvalidStep) ⊎ IsWant fault room

abbrev pub IsReplay : Theory → Store → List Sequent → Justification → Result Theorem Fault → Type 0
IsReplay theory store sequents justification answer =
    AnswersReplay (has_room theory (sequents_in store) sequents justification) (sequent_of theory (sequents_in store) sequents justification) answer

-- ---- what the test of a step answers

abbrev pub terms_of_goals : List Goal → List Nameless
terms_of_goals [] = []
terms_of_goals (goal ∷ goals) = image goal.target ∷ map image goal.assumptions ++ terms_of_goals goals

-- both replays of the step, over its subgoals under `F` and under `F /\ F`, have room, and so has each subgoal
abbrev pub has_room_for_step : Theory → Store → Step → Bool
has_room_for_step theory store step =
    list_all is_roomy (terms_of_goals step.goals)
    && (has_room theory (sequents_in store) (map (supposed false_term) step.goals) step.justification
    && has_room theory (sequents_in store) (map (supposed false_twice) step.goals) step.justification)
