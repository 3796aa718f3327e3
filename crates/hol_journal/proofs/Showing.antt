-- What shows that a step gives a theorem's sequent.
use Rattle.std.proofs.Common.{◌≡◌, ◌+◌, ℕ, List, [], length, Bool, true, false, ◌||◌, refl, ◌∙◌, ap, Option, Some, None, Ok, Result, arith, nat_le}
use Rattle.std.specs.Option.{is_some}
use Rattle.hol_model.specs.declared.fault.Fault.{Fault}
use Rattle.hol_model.specs.declared.limits.TheConstants.{DEFINITIONS_LIMIT}
use Rattle.hol_model.specs.Terms.HolType.{bool_type}
use Rattle.hol_model.specs.Terms.NamedTerm.{NamedTerm, type_of, is_within_limits}
use Rattle.hol_model.specs.Terms.Nameless.{Nameless}
use Rattle.hol_model.specs.Logic.Theory.{Theory}
use Rattle.hol_model.specs.Kernel.Theorem.{Theorem, IsTheorem}
use Rattle.hol_model.specs.declared.fault.Fault.TheVariants.{TooLarge}
use Rattle.hol_model.specs.Kernel.Outcome.{unless, given, refused}
use Rattle.hol_model.specs.Kernel.Rules.{dest_equation, concluded}
use Rattle.hol_model.proofs.Kernel.Outcomes.{passed_value}
use Rattle.hol_kernel.proofs.RuleLemmas.{IsEquation}
use Rattle.hol_kernel.proofs.RuleLemmas as kernel
use Rattle.hol_model.specs.Goals.Goals.{Sequent}
use Rattle.hol_model.specs.Logs.LogLine.{LogRule}
use Rattle.hol_model.specs.Logs.LogLine.LogLine.{theorem_line}
use Rattle.hol_model.specs.Logs.LogState.{LogState}
use Rattle.hol_model.specs.Logs.LogSequents.{sequent_of, rule_entries}
use Rattle.hol_model.specs.Logs.LogFaults.{first_cause, rule_has_number_fault, rule_has_name_fault, rule_has_type_fault, rule_has_rule_fault, sequent_fits}
use Rattle.hol_journal.specs.Steps.{Step, JournalEntry, sequent_of_theorem, sequent_at}
use Rattle.hol_journal.specs.Lines.{Numbering, line_of, NamesParts, MayGoOn, Gives}
use Rattle.hol_journal.specs.Limits.{FitsLog}

abbrev pub record_sequent : List Nameless → Nameless → Sequent
record_sequent hypotheses conclusion = record { hypotheses = hypotheses; conclusion = conclusion }

pub neither : (p q : Bool) → p ≡ false → q ≡ false → (p || q) ≡ false
neither p q first second = cc

-- no cause applies to a theorem's line that has none of these faults
pub record IsFlawless (state : LogState) (rule : LogRule) : Type 0 where
  pub number : rule_has_number_fault state rule ≡ false
  pub name : rule_has_name_fault state rule ≡ false
  pub kind : rule_has_type_fault state rule ≡ false
  pub condition : rule_has_rule_fault state rule ≡ false
  pub room : nat_le (length (rule_entries state rule) + length state.theory) DEFINITIONS_LIMIT ≡ true

accepted : (state : LogState) (rule : LogRule) (sequent : Sequent) → state.is_ended ≡ false → IsFlawless state rule → sequent_of state rule ≡ sequent → sequent_fits sequent ≡ true
    → first_cause state (theorem_line rule) ≡ None
accepted state rule sequent going_on flawless is fits =
    let within : sequent_fits (sequent_of state rule) ≡ true = ap sequent_fits is ∙ fits in
    rw (flawless.number, flawless.name, flawless.kind, flawless.condition, within, flawless.room, going_on) refl

-- a step is shown by the sequent that its line gives, and by the faults that it has not
pub shown : (theory : Theory) (entries : List JournalEntry) (step : Step) (answer : Theorem) → FitsLog answer
    → ((state : LogState) (numbers : Numbering) → NamesParts entries step state numbers → sequent_of state (line_of numbers step) ≡ sequent_of_theorem answer)
    → ((state : LogState) (numbers : Numbering) → MayGoOn theory state → NamesParts entries step state numbers → IsFlawless state (line_of numbers step))
    → Gives theory entries step (sequent_of_theorem answer)
shown theory entries step answer fits gives flawless = record {
  accepted = λ state numbers going names. accepted state (line_of numbers step) (sequent_of_theorem answer) going.is_not_ended (flawless state numbers going names) (gives state numbers names) fits;
  gives = gives;
}

-- what an outcome that is a theorem says of its tests

pub refused-is : {A : Type 0} (refusal : Option Fault) (next : Result A Fault) (x : A) → refused refusal next ≡ Ok x → next ≡ Ok x
refused-is None next x is = is
refused-is (Some fault) next x is = cc

pub passed-none : {A : Type 0} (refusal : Option Fault) (next : Result A Fault) (x : A) → refused refusal next ≡ Ok x → refusal ≡ None
passed-none None next x is = refl
passed-none (Some fault) next x is = cc

pub unless-is : {A : Type 0} (test : Bool) (fault : Fault) (next : Result A Fault) (x : A) → unless test fault next ≡ Ok x → (test ≡ true) × (next ≡ Ok x)
unless-is true fault next x is = (refl, is)
unless-is false fault next x is = cc

pub given-is : {A B : Type 0} (found : Option A) (fault : Fault) (next : A → Result B Fault) (x : B) → given found fault next ≡ Ok x → (y : A) × (found ≡ Some y) × (next y ≡ Ok x)
given-is None fault next x is = cc
given-is (Some y) fault next x is = (y, refl, is)

pub concluded-is : (theory : Theory) (hypotheses : List NamedTerm) (conclusion : NamedTerm) (answer : Theorem) → concluded theory hypotheses conclusion ≡ Ok answer
    → answer ≡ record { theory = theory; hypotheses = hypotheses; conclusion = conclusion }
concluded-is theory hypotheses conclusion answer is = passed_value (is_within_limits conclusion) TooLarge (record { theory = theory; hypotheses = hypotheses; conclusion = conclusion }) answer is

-- two sequents with the same parts
pub same_sequent : {h k : List Nameless} {c d : Nameless} → h ≡ k → c ≡ d → record_sequent h c ≡ record_sequent k d
same_sequent hypotheses conclusion = λ i. record_sequent (hypotheses i) (conclusion i)

-- a theorem that a step cites

-- the theorem is that of the entry
pub record IsCited (entries : List JournalEntry) (number : ℕ) (theorem : Theorem) : Type 0 where
  pub is : IsTheorem theorem
  pub at : sequent_at entries number ≡ sequent_of_theorem theorem

-- its conclusion, where that is an equation
pub sides_of : (theorem : Theorem) → IsTheorem theorem → (left right : NamedTerm) → dest_equation theorem.conclusion ≡ Some (left, right) → IsEquation theorem.conclusion left right
sides_of theorem is left right dest = kernel.equation_of theorem.theory is.legal theorem (record { added = []; is_added = refl }) is left right dest

-- no entry more is room enough
pub no_more : (theory : Theory) (state : LogState) → MayGoOn theory state → nat_le (0 + length state.theory) DEFINITIONS_LIMIT ≡ true
no_more theory state going = let same : 0 + length state.theory ≡ length state.theory = omega arith in ap (λ n. nat_le n DEFINITIONS_LIMIT) same ∙ going.within_limit

-- its conclusion is of type `bool`
pub formula_of : (theorem : Theorem) → IsTheorem theorem → type_of theorem.conclusion ≡ Some bool_type
formula_of theorem is = kernel.formula theorem.theory is.legal theorem (record { added = []; is_added = refl }) is

-- the value that is there
pub value_of : {A : Type 0} (found : Option A) → is_some found ≡ true → (x : A) × (found ≡ Some x)
value_of None is = cc
value_of (Some x) is = (x, refl)

abbrev pub answered : {A : Type 0} → A → Result A Fault
answered x = Ok x

pub ok_is : (x y : Theorem) → answered x ≡ Ok y → x ≡ y
ok_is x y is = cc
