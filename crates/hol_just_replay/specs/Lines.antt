-- What the lines of a justification come to in a replay.
use Rattle.std.specs.Prelude.{◌≡◌, ◌⊎◌, ℕ, List, [], ◌∷◌, ◌++◌, map, Bool, Option, Some, Result, Ok, Err, IfOk, slice_get, length, true, ◌&&◌}
use Rattle.std.specs.Option.{option_map}
use Rattle.std.proofs.Common.{Bor}
use Rattle.hol_model.specs.declared.fault.Fault.{Fault}
use Rattle.hol_model.specs.declared.fault.Fault.TheVariants.{Memory, TooLarge, InvalidStep}
use Rattle.hol_model.specs.Logic.Theory.{Theory}
use Rattle.hol_model.specs.Kernel.Theorem.{Theorem}
use Rattle.hol_model.specs.Goals.Goals.{Sequent}
use Rattle.hol_model.specs.Goals.Justifications.{Justification, joined, sequent_over}
use Rattle.hol_model.specs.Goals.Replays.{sequent_of_theorem, terms_of_rule, terms_of_sequent, has_room_over}
use Rattle.hol_model.specs.Derived.InferenceRules.{InferenceRule}
use Rattle.hol_model.specs.Derived.Inference.{given, rule_sequent}
use Rattle.hol_journal.specs.Journal.{Journal, Recorded, IsMade}
use Rattle.hol_journal.specs.Growth.{IsGrown}
use Rattle.hol_equal.specs.Inferred.{IsDrawn, Infers}
use Rattle.hol_just.specs.Flat.{FlatLine, trees_after, tree_of_line, cited, cite_earlier}
use Rattle.hol_theorem_store.specs.Stored.{Stored}
use Rattle.hol_just_replay.specs.Named.{named_sequents, sequents_of}
use Rattle.hol_just_replay.specs.Room.{IsNotLarge, are_roomy, FindsRoom}
use Rattle.hol_just_replay.specs.declared.replays.LineAnswer.{LineAnswer}
use Rattle.hol_just_replay.specs.declared.replays.LineAnswer.TheVariants.{Made, Invalid, Large}

-- the theorem of a line, or why it has none
abbrev pub result_of : LineAnswer → Result Theorem Fault
result_of (Made made) = Ok made.theorem
result_of Invalid = Err InvalidStep
result_of Large = Err TooLarge

-- what is expected of the replay of a tree: the tree's sequent, and whether it has room
pub record Expected : Type 0 where
  pub sequent : Option Sequent
  pub has_room : Bool

-- the replay answers what is expected; where there is room, the terms of the sequent leave some
pub record Meets (expected : Expected) (result : Result Theorem Fault) : Type 0 where
  pub drawn : IsDrawn expected.sequent result
  pub fits : expected.has_room ≡ true → IsNotLarge result
  pub roomy : expected.has_room ≡ true → are_roomy (terms_of_sequent expected.sequent) ≡ true

-- what is expected of a tree over a theory, what is stored, and theorems for the subgoals
abbrev pub expected_in : Theory → Stored → List Recorded → Justification → Expected
expected_in theory stored subgoals tree = record {
  sequent = sequent_over theory (named_sequents stored) (slice_get (sequents_of subgoals)) tree;
  has_room = has_room_over theory (named_sequents stored) (slice_get (sequents_of subgoals)) tree;
}

-- the lines with these trees came to these answers
abbrev pub AreMet : (Justification → Expected) → List Justification → List LineAnswer → Type 0
AreMet expects [] [] = Unit {0}
AreMet expects (tree ∷ trees) (answer ∷ answers) = Meets (expects tree) (result_of answer) × AreMet expects trees answers
AreMet expects _ _ = ⊥

-- the recorder made the line's theorem
abbrev pub IsHeldLine : Journal → LineAnswer → Type 0
IsHeldLine journal (Made made) = IsMade journal made
IsHeldLine journal _ = Unit {0}

abbrev pub AreHeldLines : Journal → List LineAnswer → Type 0
AreHeldLines journal [] = Unit {0}
AreHeldLines journal (answer ∷ answers) = IsHeldLine journal answer × AreHeldLines journal answers

-- after a line the journal has grown, the theory is the same, and what the line came to is held
pub record ContinuesLine (old new : Journal) (result : Result LineAnswer Fault) : Type 0 where
  pub grown : IsGrown old new
  pub theory : new.theory ≡ old.theory
  pub held : IfOk result (IsHeldLine new)

-- of all lines these are left, which cite earlier ones; the others came to these answers
pub record IsReplayed (expects : Justification → Expected) (left all : List FlatLine) (answers : List LineAnswer) : Type 0 where
  pub trees : List Justification
  pub are : trees_after trees left ≡ trees_after [] all
  pub met : AreMet expects trees answers

-- a replay is refused because the tree has no sequent, or for want of memory, or for size
abbrev pub IsReplayRefusal : Fault → Type 0
IsReplayRefusal fault = (fault ≡ InvalidStep) ⊎ ((fault ≡ Memory) ⊎ (fault ≡ TooLarge))

-- what is expected of the trees at these places
abbrev pub expected_at : (Justification → Expected) → List Justification → List ℕ → List Expected
expected_at expects trees [] = []
expected_at expects trees (place ∷ places) = expects (cited trees place) ∷ expected_at expects trees places

-- the sequents of the parts
abbrev pub premises_of : List Expected → Option (List Sequent)
premises_of [] = Some []
premises_of (part ∷ parts) = joined part.sequent (premises_of parts)

abbrev pub have_room : List Expected → Bool
have_room [] = true
have_room (part ∷ parts) = part.has_room && have_room parts

-- what a rule draws from the parts
abbrev pub drawn_from : Theory → InferenceRule → List Expected → Option Sequent
drawn_from theory rule parts = given (premises_of parts) (rule_sequent theory rule)

-- what is expected of a rule and parts
abbrev pub expected_by : Theory → InferenceRule → List Expected → Expected
expected_by theory rule parts = record {
  sequent = drawn_from theory rule parts;
  has_room = are_roomy (terms_of_rule rule ++ terms_of_sequent (drawn_from theory rule parts)) && have_room parts;
}

-- each part has a theorem
abbrev pub AllMeet : List Expected → List Theorem → Type 0
AllMeet [] [] = Unit {0}
AllMeet (part ∷ parts) (theorem ∷ theorems) = Meets part (Ok theorem) × AllMeet parts theorems
AllMeet _ _ = ⊥

-- the line comes to what the rule draws from the premises, and is too large only where there is no room
pub record Applies (theory : Theory) (rule : InferenceRule) (premises : List Theorem) (answer : LineAnswer) : Type 0 where
  pub drawn : IsDrawn (rule_sequent theory rule (map sequent_of_theorem premises)) (result_of answer)
  pub finds : FindsRoom theory rule premises (result_of answer)

-- of whatever rule this is the outcome, the line comes to it
abbrev pub AppliesAs : Result Theorem Fault → Result LineAnswer Fault → Type 0
AppliesAs outcome result =
    (theory : Theory) (rule : InferenceRule) (premises : List Theorem) → Infers theory rule premises outcome → FindsRoom theory rule premises outcome → IfOk result (Applies theory rule premises)

-- the sequent of what is found
abbrev pub sequent_found : Option Recorded → Option Sequent
sequent_found found = option_map sequent_of_theorem (option_map (λ (made : Recorded). made.theorem) found)

-- the line comes to what is found
pub record IsNamed (found : Option Recorded) (answer : LineAnswer) : Type 0 where
  pub drawn : IsDrawn (sequent_found found) (result_of answer)
  pub fits : IsNotLarge (result_of answer)

-- the line has no theorem
abbrev pub IsBroken : LineAnswer → Type 0
IsBroken (Made made) = ⊥
IsBroken _ = Unit {0}

-- what stands at a place among lines with these trees: a theorem that is held, or why there is none
pub record IsPremise (expects : Justification → Expected) (trees : List Justification) (place : ℕ) (answer : LineAnswer) : Type 0 where
  pub met : Meets (expects (cited trees place)) (result_of answer)

-- what a rule comes to with the parts at these places
pub record IsMetFrom (theory : Theory) (rule : InferenceRule) (expects : Justification → Expected) (trees : List Justification) (places : List ℕ) (answer : LineAnswer) : Type 0 where
  pub met : Meets (expected_by theory rule (expected_at expects trees places)) (result_of answer)

-- whatever the lines come to, the rule comes to what is expected of it and them
abbrev pub MeetsFrom : Theory → InferenceRule → List LineAnswer → List ℕ → Result LineAnswer Fault → Type 0
MeetsFrom theory rule answers places result =
    (expects : Justification → Expected) (trees : List Justification) → AreMet expects trees answers → IfOk result (IsMetFrom theory rule expects trees places)

-- whatever earlier lines come to, the line comes to what is expected of its tree
abbrev pub MeetsLine : (Justification → Expected) → List LineAnswer → FlatLine → Result LineAnswer Fault → Type 0
MeetsLine expects answers line result =
    (trees : List Justification) → AreMet expects trees answers → IfOk result (λ answer. Meets (expects (tree_of_line trees line)) (result_of answer))

abbrev pub premise_result : Result (Bor Recorded) LineAnswer → LineAnswer
premise_result (Ok made) = Made made.now
premise_result (Err answer) = answer

-- a replay that has come so far: the journal has grown, the theory is the same, and the recorder made the lines' theorems
pub record IsReplaying (old now : Journal) (expects : Justification → Expected) (left all : List FlatLine) (answers : List LineAnswer) : Type 0 where
  pub grown : IsGrown old now
  pub theory : now.theory ≡ old.theory
  pub held : AreHeldLines now answers
  pub cite : cite_earlier (length answers) left ≡ true
  pub replayed : IsReplayed expects left all answers
