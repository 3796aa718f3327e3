-- One line after another.
use Rattle.std.proofs.Common.{◌≡◌, List, [], ◌∷◌, ◌++◌, ◌||◌, Bool, true, false, refl, sym, ◌∙◌, ap, None, Some, Result, Ok, Err, if◌then◌else◌}
use Rattle.std.specs.Prelude.{OnOk, OnErr}
use Rattle.hol_model.specs.declared.fault.Fault.{Fault}
use Rattle.hol_model.specs.declared.fault.Cause.{Cause}
use Rattle.hol_model.specs.declared.fault.Cause.TheVariants.{Shape, Number, Name, Kind, Const, Rule, Claim, Large, End}
use Rattle.hol_model.specs.Logs.LogLine.{LogLine}
use Rattle.hol_model.specs.Logs.LogState.{LogState}
use Rattle.hol_model.specs.Logs.LogFaults.{has_shape_fault, has_number_fault, has_name_fault, has_type_fault, has_constant_fault, has_rule_fault, has_claim_fault, has_size_fault, has_end_fault}
use Rattle.hol_model.specs.Logs.LogFaults.{first_applying, first_cause}
use Rattle.hol_check_terms.specs.Terms.{TermTable, IsGrown}
use Rattle.hol_check_rules.specs.State.{state_of, IsContents}
use Rattle.hol_check_rules.specs.Judged.{CanBeAdded, IsAccepted, first_fault}
use Rattle.hol_check_lines.specs.Added.{IsAdded}
use Rattle.hol_check_lines.specs.Taken.{IsTakenLine}
use Rattle.hol_check_rules.specs.declared.state.Contents.{Contents}
use Rattle.hol_check_rules.specs.declared.state.Addition.{Addition}
use Rattle.hol_check_rules.proofs.StateLemmas.{state-still, contents-grown}

-- the first of some tests, and then another

first-some : (tests rest : List (Bool × Cause)) (cause : Cause) → first_applying tests ≡ Some cause → first_applying (tests ++ rest) ≡ Some cause
first-some [] rest cause is = cc
first-some (test ∷ tests) rest cause is = go test.0 is (first-some tests rest cause)
  where
    go : (holds : Bool) → (if holds then Some test.1 else first_applying tests) ≡ Some cause → (first_applying tests ≡ Some cause → first_applying (tests ++ rest) ≡ Some cause)
        → (if holds then Some test.1 else first_applying (tests ++ rest)) ≡ Some cause
    go true is later = is
    go false is later = later is

first-none : (tests rest : List (Bool × Cause)) → first_applying tests ≡ None → first_applying (tests ++ rest) ≡ first_applying rest
first-none [] rest none = refl
first-none (test ∷ tests) rest none = go test.0 none (first-none tests rest)
  where
    go : (holds : Bool) → (if holds then Some test.1 else first_applying tests) ≡ None → (first_applying tests ≡ None → first_applying (tests ++ rest) ≡ first_applying rest)
        → (if holds then Some test.1 else first_applying (tests ++ rest)) ≡ first_applying rest
    go true none later = cc
    go false none later = later none

module _ (state : LogState) (line : LogLine) where
  -- all tests but that for `end`
  abbrev earlier-tests : List (Bool × Cause)
  earlier-tests =
      (has_shape_fault state line, Shape)
      ∷ (has_number_fault state line, Number)
      ∷ (has_name_fault state line, Name)
      ∷ (has_type_fault state line, Kind)
      ∷ (has_constant_fault state line, Const)
      ∷ (has_rule_fault state line, Rule)
      ∷ (has_claim_fault state line, Claim)
      ∷ (has_size_fault state line, Large)
      ∷ []

  pub refused-first : (cause : Cause) → first_fault state line ≡ Some cause → first_cause state line ≡ Some cause
  refused-first cause is = first-some earlier-tests ((has_end_fault state line, End) ∷ []) cause is

  pub refused-last : first_fault state line ≡ None → has_end_fault state line ≡ true → first_cause state line ≡ Some End
  refused-last none ends = first-none earlier-tests ((has_end_fault state line, End) ∷ []) none ∙ ap (λ b. if b then Some End else None) ends

  pub accepted-last : first_fault state line ≡ None → has_end_fault state line ≡ false → first_cause state line ≡ None
  accepted-last none goes_on = first-none earlier-tests ((has_end_fault state line, End) ∷ []) none ∙ ap (λ b. if b then Some End else None) goes_on

-- what was added is what the line adds
pub taken-line : (earlier now : TermTable) (contents later : Contents) (line : LogLine) (addition : Addition) → IsContents earlier contents → IsGrown earlier now →
    IsAccepted (state_of earlier contents) line now contents addition
    → has_end_fault (state_of earlier contents) line ≡ false → IsAdded now contents addition later → IsTakenLine (state_of earlier contents) line (state_of now later)
taken-line earlier now contents later line addition is grown accepted goes_on added = record {
  accepted = accepted-last (state_of earlier contents) line accepted.accepted goes_on;
  after =
      let still = state-still earlier now grown contents is in
      let d = accepted.denotes in
      added.state
      ∙ (λ i. record {
        version = (still i).version;
        types = (still i).types ++ sym d.types i;
        terms = (still i).terms ++ sym d.terms i;
        theorems = (still i).theorems ++ sym d.theorems i;
        theory = sym d.entries i ++ (still i).theory;
        claims = (still i).claims ++ sym d.claims i;
        is_ended = (still i).is_ended || sym d.ends i;
      });
}

-- what was given holds together, whether there was room for the addition or not
pub still-contents : (result : Result (Unit {0}) Fault) (earlier now : TermTable) (contents later : Contents) (addition : Addition) → IsContents earlier contents → IsGrown earlier now →
    CanBeAdded now contents addition
    → OnOk result ((table : TermTable) → IsContents table contents → CanBeAdded table contents addition → IsAdded table contents addition later)
    → OnErr result ((table : TermTable) → IsContents table contents → CanBeAdded table contents addition → IsContents table later) → IsContents now later
still-contents (Ok _) earlier now contents later addition is grown stands added kept = (added now (contents-grown earlier now grown contents is) stands).is_contents
still-contents (Err fault) earlier now contents later addition is grown stands added kept = kept now (contents-grown earlier now grown contents is) stands
