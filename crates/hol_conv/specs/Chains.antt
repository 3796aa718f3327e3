-- Theorems that are joined by TRANS: each of the right side of the one before.
use Rattle.std.specs.Prelude.{◌≡◌, ℕ, suc, List, [], ◌∷◌, ◌++◌, map, if◌then◌else◌, Bool, true, false, Some, Result, Ok, Err, IfOk}
use Rattle.std.specs.List.{All}
use Rattle.hol_model.specs.declared.fault.Fault.{Fault}
use Rattle.hol_model.specs.declared.fault.Fault.TheVariants.{Memory, StepLimit}
use Rattle.hol_model.specs.Terms.NamedTerm.{NamedTerm, equation, is_within_limits}
use Rattle.hol_model.specs.Terms.Nameless.{Nameless, image}
use Rattle.hol_model.specs.Logic.Theory.{Theory}
use Rattle.hol_model.specs.Logic.KnownTerm.{is_known}
use Rattle.hol_model.specs.Kernel.Theorem.{Theorem}
use Rattle.hol_model.specs.Kernel.Rules.{dest_equation, refl_outcome}
use Rattle.hol_model.specs.Refining.Conversions.{is_caught}
use Rattle.hol_laws_refiners.proofs.Repeating.{joined_from}
use Rattle.hol_journal.specs.Journal.{Recorded, IsMade}
use Rattle.hol_theorem_library.specs.declared.library.Library.{Library}
use Rattle.hol_conv.specs.Makes.{StandsOn, Joins, IsRightSide}
use Rattle.hol_conv.specs.Converted.{same_theorem, answered, IsAnswerOf}
use Rattle.hol_conv.specs.declared.chain.Chain.{Chain}
use Rattle.hol_conv.specs.declared.chain.Linked.{Linked}
use Rattle.hol_conv.specs.declared.chain.Linked.TheVariants.{GoesOn, Ends}

abbrev pub theorems : List Recorded → List Theorem
theorems all = map (λ made. made.theorem) all

-- the theorems, and that the current term equals itself where that stands behind them
abbrev pub proved_by : Theory → Chain → List Theorem
proved_by theory chain = theorems chain.theorems.items ++ (if chain.is_same then same_theorem theory chain.current ∷ [] else [])

-- the theorem is an equation with these sides, up to the names of bound variables
pub record Equates (left right : Nameless) (theorem : Theorem) : Type 0 where
  pub sides : NamedTerm × NamedTerm
  pub is : dest_equation theorem.conclusion ≡ Some sides
  pub left_is : image sides.0 ≡ left
  pub right_is : image sides.1 ≡ right

-- theorems that lead to a term: each is an equation of the right side of the one before, the last one's right side is the term
pub data LeadTo : List Recorded → Nameless → Type 0 where
  lead_nowhere : {end : Nameless} → LeadTo [] end
  lead_on : {before : List Recorded} (made : Recorded) {middle end : Nameless} → Equates middle end made.theorem → LeadTo before middle → LeadTo (before ++ made ∷ []) end

-- theorems that lead to the left side of one more
pub record LeadUpTo (all : List Recorded) (last : Theorem) : Type 0 where
  pub left : Nameless
  pub right : Nameless
  pub equates : Equates left right last
  pub lead : LeadTo all left

-- the last theorem stands on the library's theory, and the term is its right side
pub record EndsHere (library : Library) (all : List Recorded) (current : NamedTerm) : Type 0 where
  pub front : List Recorded
  pub last : Recorded
  pub there : all ≡ front ++ last ∷ []
  pub stands : StandsOn library.recorder.theory last
  pub right : IsRightSide last.theorem current

-- the recorder made the theorems, which lead to the current term; its theory knows that term, and there is room for that it
-- equals itself; the last theorem stands on that theory where it is said to
pub record IsChain (library : Library) (chain : Chain) : Type 0 where
  pub made : All (IsMade library.recorder) chain.theorems.items
  pub lead : LeadTo chain.theorems.items (image chain.current)
  pub known : is_known library.recorder.theory chain.current ≡ true
  pub roomy : chain.is_same ≡ true → is_within_limits (equation chain.current chain.current) ≡ true
  pub ends : chain.stands_here ≡ true → EndsHere library chain.theorems.items chain.current

-- where there are no theorems yet, the current term is the first
abbrev pub BeginsAt : NamedTerm → Chain → Type 0
BeginsAt t chain = chain.theorems.items ≡ [] → chain.current ≡ t

pub record IsChainFrom (library : Library) (t : NamedTerm) (chain : Chain) : Type 0 where
  pub held : IsChain library chain
  pub begun : BeginsAt t chain

-- the same theorems, and each of them is made
pub record Settles (theory : Theory) (old new : Chain) : Type 0 where
  pub proved : theorems new.theorems.items ≡ proved_by theory old
  pub current : new.current ≡ old.current
  pub is_same : new.is_same ≡ false
  pub begun : (t : NamedTerm) → BeginsAt t old → BeginsAt t new

-- ALL_CONV: a step, and REFL
pub data Reflects (theory : Theory) (t : NamedTerm) : ℕ → Result Theorem Fault → ℕ → Type 0 where
  without_step : Reflects theory t 0 (Err StepLimit) 0
  by_refl : {left : ℕ} {answer : Result Theorem Fault} → Joins (refl_outcome theory t) answer → Reflects theory t (suc left) answer left

-- the theorems, joined from the right to what ALL_CONV answers on the term
pub record JoinsSame (theory : Theory) (proved : List Theorem) (t : NamedTerm) (steps : ℕ) (answer : Result Theorem Fault) (left : ℕ) : Type 0 where
  pub same : Result Theorem Fault
  pub reflects : Reflects theory t steps same left
  pub joins : Joins (joined_from theory proved same) answer

-- what ends behind a refusal: ALL_CONV where it is caught
abbrev pub FinishesBy : Bool → Theory → List Theorem → NamedTerm → Fault → ℕ → Result Theorem Fault → ℕ → Type 0
FinishesBy true theory proved t fault steps answer left = JoinsSame theory proved t steps answer left
FinishesBy false theory proved t fault steps answer left = (answer ≡ Err fault) × (left ≡ steps)

abbrev pub Finishes : Theory → List Theorem → NamedTerm → Fault → ℕ → Result Theorem Fault → ℕ → Type 0
Finishes theory proved t fault steps answer left = FinishesBy (is_caught fault) theory proved t fault steps answer left

-- what was answered, or ALL_CONV where it is a refusal that is caught
abbrev pub Tries : Theory → NamedTerm → Result Theorem Fault → ℕ → Result Theorem Fault → ℕ → Type 0
Tries theory t (Ok theorem) steps answer left = (answer ≡ Ok theorem) × (left ≡ steps)
Tries theory t (Err fault) steps answer left = Finishes theory [] t fault steps answer left

-- one more theorem, and its right side
pub record IsExtended (theory : Theory) (before : List Theorem) (made : Theorem) (chain : Chain) : Type 0 where
  pub proved : proved_by theory chain ≡ before ++ made ∷ []
  pub right : IsRightSide made chain.current

-- an answer on the current term is put behind the theorems, or is a refusal that ends the chain from a term
abbrev pub Links : Theory → List Theorem → NamedTerm → NamedTerm → Result Theorem Fault → ℕ → Linked → ℕ → Type 0
Links theory proved t current (Ok made) steps (GoesOn chain) left = IsExtended theory proved made chain × (left ≡ steps)
Links theory proved t current (Ok made) steps (Ends result) left = (result ≡ Err Memory) × (left ≡ steps)
Links theory proved t current (Err fault) steps (GoesOn chain) left = ⊥
Links theory proved t current (Err fault) steps (Ends result) left = Finishes theory proved current fault steps (answered theory t result) left

-- what is left of a library
abbrev pub LinksMade : Library → NamedTerm → Linked → Type 0
LinksMade library t (GoesOn chain) = IsChainFrom library t chain
LinksMade library t (Ends result) = IfOk result (IsAnswerOf library t)
