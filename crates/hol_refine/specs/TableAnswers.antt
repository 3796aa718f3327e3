-- What the calls of the table of refiners answer.
use Rattle.std.specs.Prelude.{◌≡◌, ◌⊎◌, ℕ, List, [], ◌∷◌, Bool, true, Option, Result, Ok, Err, nat_le}
use Rattle.hol_model.specs.declared.fault.Fault.{Fault}
use Rattle.hol_model.specs.declared.fault.Fault.TheVariants.{Memory}
use Rattle.hol_model.specs.Derived.DerivedRules.{IsConclusion, body_with}
use Rattle.hol_model.specs.Terms.HolType.{HolType}
use Rattle.hol_model.specs.Terms.NamedTerm.{NamedTerm, variable}
use Rattle.hol_model.specs.Terms.Nameless.{Nameless, image}
use Rattle.hol_model.specs.Terms.Measures.{nameless_within_limits}
use Rattle.hol_model.specs.Logic.NamedLogic.{Abstracted, implication}
use Rattle.hol_model.specs.Logic.Theory.{Theory}
use Rattle.hol_model.specs.Kernel.Theorem.{Theorem}
use Rattle.hol_model.specs.Goals.Goals.{Goal}
use Rattle.hol_model.specs.Goals.Justifications.{Justification}
use Rattle.hol_model.specs.Goals.ValidSteps.{Step}
use Rattle.hol_model.specs.Goals.Replays.{Store, IsWant, depth}
use Rattle.hol_model.specs.Rewrites.RenamedBody.{renamed_body}
use Rattle.hol_model.specs.Refining.Refiners.{Leaf, StatedGoal, StatedStep, AreConclusions, IsStep, table, AnswersTable}
use Rattle.hol_just.specs.declared.goal.Step as code_step
use Rattle.hol_just.specs.declared.just.Just.{Just}
use Rattle.hol_just.specs.Steps.{step_of, tree_of}

-- the step that a call answers
abbrev pub step_in : Result code_step.Step Fault → Result Step Fault
step_in (Ok step) = Ok (step_of step)
step_in (Err fault) = Err fault

-- the goal is the stated one
pub record IsGoal (stated : StatedGoal) (goal : Goal) : Type 0 where
  pub assumptions : AreConclusions stated.assumptions goal.assumptions
  pub target : IsConclusion stated.target goal.target

-- the call answers a step that is the stated one, or the refusal, or that there is no memory
abbrev pub AnswersStep : Result StatedStep Fault → Result Step Fault → Type 0
AnswersStep (Ok stated) (Ok step) = IsStep stated step
AnswersStep (Err refusal) (Ok step) = ⊥
AnswersStep (Ok stated) (Err fault) = fault ≡ Memory
AnswersStep (Err refusal) (Err fault) = (fault ≡ Memory) ⊎ (fault ≡ refusal)

-- the same of a row of the table, whatever the new variable is called
abbrev pub AnswersRow : Leaf → Goal → Result Step Fault → Type 0
AnswersRow leaf goal result = (store : Store) (fresh : List ℕ) → AnswersStep (table store leaf goal fresh) result

-- the same of the row of a refiner that takes a theorem's name, where this is what the name stands for
abbrev pub AnswersNamedRow : Leaf → List ℕ → Option Theorem → Goal → Result Step Fault → Type 0
AnswersNamedRow leaf name found goal result = (store : Store) (fresh : List ℕ) → store.named name ≡ found → AnswersStep (table store leaf goal fresh) result

-- the call makes the justification of this tree, or there is no memory
abbrev pub Makes : Result Just Fault → Justification → Type 0
Makes (Ok made) tree = tree_of made ≡ tree
Makes (Err fault) tree = fault ≡ Memory

-- the same of two justifications
abbrev pub MakesBoth : Result (Just × Just) Fault → Justification → Justification → Type 0
MakesBoth (Ok made) first second = (tree_of made.0 ≡ first) × (tree_of made.1 ≡ second)
MakesBoth (Err fault) first second = fault ≡ Memory

-- far from the limit on depth
abbrev pub is_shallow : Justification → Bool
is_shallow justification = nat_le (depth justification) 10

-- so it does over parts that are far from it
abbrev pub MakesOver : List Justification → Result Just Fault → Justification → Type 0
MakesOver [] result tree = Makes result tree
MakesOver (part ∷ parts) result tree = is_shallow part ≡ true → MakesOver parts result tree

-- the refiner answers what the table leaves, or that there is no memory
abbrev pub AnswersLeaf : Theory → Store → Leaf → Goal → Result Step Fault → Type 0
AnswersLeaf theory store leaf goal result = AnswersTable theory store leaf goal result ⊎ (result ≡ Err Memory)

-- the same of a refiner that takes a theorem's name, where this is what the name stands for
abbrev pub AnswersNamedLeaf : Theory → Leaf → List ℕ → Option Theorem → Goal → Result Step Fault → Type 0
AnswersNamedLeaf theory leaf name found goal result = (store : Store) → store.named name ≡ found → AnswersLeaf theory store leaf goal result

-- the call makes the implication, which is within the limits; or there is no memory, or it is not
abbrev pub AnswersImplication : Result NamedTerm Fault → NamedTerm → NamedTerm → Type 0
AnswersImplication (Ok made) p q = (nameless_within_limits (image (implication p q)) ≡ true) × (made ≡ implication p q)
AnswersImplication (Err fault) p q = IsWant fault (nameless_within_limits (image (implication p q)))

-- the parts of an abstraction
abbrev pub abstracted : List ℕ → HolType → NamedTerm → Abstracted
abstracted name ty body = record { name = name; ty = ty; body = body }

-- the call makes a term of this image, which is within the limits; or there is no memory, or it is not
abbrev pub AnswersInstance : Result NamedTerm Fault → Nameless → Type 0
AnswersInstance (Ok made) term = (nameless_within_limits term ≡ true) × (image made ≡ term)
AnswersInstance (Err fault) term = IsWant fault (nameless_within_limits term)

-- the same of the body under a new name for its variable
abbrev pub AnswersRenamed : Result NamedTerm Fault → Abstracted → List ℕ → Type 0
AnswersRenamed (Ok made) at name = (nameless_within_limits (body_with at (variable name at.ty)) ≡ true) × IsConclusion (renamed_body at name) made
AnswersRenamed (Err fault) at name = IsWant fault (nameless_within_limits (body_with at (variable name at.ty)))
