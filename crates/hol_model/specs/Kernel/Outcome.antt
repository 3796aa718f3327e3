-- What a call answers: a value, or the first refusal of its list that applies.
use Rattle.std.specs.Prelude.{◌≡◌, ◌⊎◌, Bool, true, false, Option, Some, None, Result, Ok, Err}
use Rattle.hol_model.specs.declared.fault.Fault.{Fault}
use Rattle.hol_model.specs.declared.fault.Fault.TheVariants.{Memory}

-- the refusal where the test fails, else what follows
abbrev pub unless : {A : Type 0} → Bool → Fault → Result A Fault → Result A Fault
unless true fault next = next
unless false fault next = Err fault

-- the refusal where there is no value, else what follows with the value
abbrev pub given : {A B : Type 0} → Option A → Fault → (A → Result B Fault) → Result B Fault
given None fault next = Err fault
given (Some x) fault next = next x

-- the refusal, where there is one, else what follows
abbrev pub refused : {A : Type 0} → Option Fault → Result A Fault → Result A Fault
refused None next = next
refused (Some fault) next = Err fault

-- the call answers this outcome, or that there is no memory
abbrev pub Answers : {A : Type 0} → Result A Fault → Result A Fault → Type 0
Answers (Ok x) outcome = outcome ≡ Ok x
Answers (Err fault) outcome = (fault ≡ Memory) ⊎ (outcome ≡ Err fault)

-- the call answers the refusal, where there is one, else a value of which the fact holds, or that there is no memory
abbrev pub AnswersSuch : {A : Type 0} → Result A Fault → Option Fault → (A → Type 0) → Type 0
AnswersSuch (Ok x) refusal fact = (refusal ≡ None) × fact x
AnswersSuch (Err fault) refusal fact = (fault ≡ Memory) ⊎ (refusal ≡ Some fault)
