-- What a judged step says of a line with a theorem.
use Rattle.std.proofs.Common.{◌≡◌, ℕ, ◌+◌, ◌≤◌, List, [], ◌∷◌, length, Bool, true, false, not, ◌&&◌, ◌||◌, nat_le, refl, sym, ◌∙◌, ap, Ok, arith}
use Rattle.std.specs.Prelude.{map}
use Rattle.std.proofs.lemmas.List.{length-reverse, length-map}
use Rattle.hol_model.specs.declared.limits.TheConstants.{DEFINITIONS_LIMIT}
use Rattle.hol_model.specs.declared.fault.Cause.TheVariants.{Number, Name, Kind, Rule, Large}
use Rattle.hol_model.specs.Logs.LogLine.{LogRule}
use Rattle.hol_model.specs.Logs.LogLine.LogLine.{theorem_line}
use Rattle.hol_model.specs.Logs.LogLine.LogRule.{abs_step, inst_step, inst_type_step, eta_step, select_step}
use Rattle.hol_model.specs.Terms.Nameless.{Nameless}
use Rattle.hol_model.specs.Logs.LogState.{LogState}
use Rattle.hol_model.specs.Logs.LogSequents.{sequent_of, rule_entries}
use Rattle.hol_model.specs.Logs.LogFaults.{rule_has_number_fault, rule_has_name_fault, rule_has_type_fault, rule_has_rule_fault, sequent_fits, first_applying}
use Rattle.hol_check_terms.specs.Terms.{TermTable, term_at}
use Rattle.hol_check_rules.specs.State.{sequent_in, state_of, entry_in}
use Rattle.hol_check_rules.specs.Judged.{NamesTerm, NamesTheorem, first_fault, IsAccepted}
use Rattle.hol_check_rules.specs.StepPairs.{term_pairs_in, type_pairs_in, NamesTermPairs, NamesTypePairs}
use Rattle.hol_model.specs.Terms.HolType.{HolType}
use Rattle.hol_check_rules.specs.Steps as steps
use Rattle.hol_check_rules.specs.Steps.{Step, IsStep, step_cause, IsTaken}
use Rattle.hol_check_rules.specs.declared.state.Theorem.{Theorem}
use Rattle.hol_check_rules.specs.declared.state.Contents.{Contents}
use Rattle.hol_check_rules.specs.declared.state.Addition.TheVariants.{Proved}
use Rattle.hol_check_lines.specs.Rules.{term_rule, term_step, pair_rule, pair_step}
use Rattle.hol_check_lines.specs.declared.step.TermRule.{TermRule}
use Rattle.hol_check_lines.specs.declared.step.TermRule.TheVariants.{Refl, Beta, Assume}
use Rattle.hol_check_lines.specs.declared.step.PairRule.{PairRule}
use Rattle.hol_check_lines.specs.declared.step.PairRule.TheVariants.{Trans, MkComb, EqMp, Deduct}

-- causes

-- the causes of the line are those of the step
causes : (number name kind fault fits room : Bool) → number ≡ false → room ≡ true
    → first_applying ((number, Number) ∷ (name, Name) ∷ (kind, Kind) ∷ (fault, Rule) ∷ (not ((fits && true) && room), Large) ∷ [])
    ≡ first_applying ((name, Name) ∷ (kind, Kind) ∷ (fault, Rule) ∷ (not fits, Large) ∷ [])
causes number name kind fault fits room there spare = rw (there, spare) (go fits)
  where
    go : (fits : Bool) → first_applying ((name, Name) ∷ (kind, Kind) ∷ (fault, Rule) ∷ (not ((fits && true) && true), Large) ∷ []) ≡ first_applying
        ((name, Name) ∷ (kind, Kind) ∷ (fault, Rule) ∷ (not fits, Large) ∷ [])
    go true = refl
    go false = refl

-- there is room in the theory
pub spare : (table : TermTable) (contents : Contents) → length contents.entries.items ≤ DEFINITIONS_LIMIT → nat_le (0 + length (state_of table contents).theory) DEFINITIONS_LIMIT ≡ true
spare table contents room =
    let same : length (state_of table contents).theory ≡ length contents.entries.items =
    length-reverse (map (entry_in table) contents.entries.items) ∙ length-map contents.entries.items (entry_in table) in
    grind arith

pub step-causes : (table : TermTable) (contents : Contents) (rule : LogRule) (step : Step) → length contents.entries.items ≤ DEFINITIONS_LIMIT → IsStep (state_of table contents) rule step
    → first_fault (state_of table contents) (theorem_line rule) ≡ step_cause step
step-causes table contents rule step room is =
    let state = state_of table contents in
    causes (rule_has_number_fault state rule) (rule_has_name_fault state rule) (rule_has_type_fault state rule) (rule_has_rule_fault state rule) (sequent_fits (sequent_of state rule))
    (nat_le (length (rule_entries state rule) + length state.theory) DEFINITIONS_LIMIT) is.numbers
    (ap (λ entries. nat_le (length entries + length state.theory) DEFINITIONS_LIMIT) is.entries ∙ spare table contents room)
    ∙ ap step_cause is.is_step

pub accepted : (earlier now : TermTable) (contents : Contents) (rule : LogRule) (step : Step) (theorem : Theorem) → length contents.entries.items ≤ DEFINITIONS_LIMIT →
    IsStep (state_of earlier contents) rule step
    → IsTaken step now.terms (Ok theorem) → IsAccepted (state_of earlier contents) (theorem_line rule) now contents (Proved theorem)
accepted earlier now contents rule step theorem room is taken = record {
  accepted = step-causes earlier contents rule step room is ∙ taken.0;
  denotes = record {
    types = refl;
    terms = refl;
    theorems = ap (λ s. s ∷ []) (ap (λ s. s.sequent) is.is_step ∙ sym taken.1);
    entries = is.entries;
    claims = refl;
    ends = refl;
  };
  added = taken.2;
}

-- steps

pub neither-true : (p q : Bool) → p ≡ false → q ≡ false → (p || q) ≡ false
neither-true p q first second = grind arith

module _ (state : LogState) (terms : List Nameless) where
  pub term-step : (rule : TermRule) (t n : ℕ) → NamesTerm state t terms n → IsStep state (term_rule rule t) (term_step rule (term_at terms n))
  term-step Refl t n named = record { numbers = named.is_there; is_step = ap steps.refl_step named.named; entries = refl }
  term-step Beta t n named = record { numbers = named.is_there; is_step = ap steps.beta_step named.named; entries = refl }
  term-step Assume t n named = record { numbers = named.is_there; is_step = ap steps.assume_step named.named; entries = refl }

  pub pair-step : (rule : PairRule) (i j : ℕ) (first second : Theorem) → NamesTheorem state i terms first → NamesTheorem state j terms second →
      IsStep state (pair_rule rule i j) (pair_step rule (sequent_in terms first) (sequent_in terms second))
  pair-step Trans i j first second one two = record { numbers = neither-true _ _ one.is_there two.is_there; is_step = λ k. steps.trans_step (one.named k) (two.named k); entries = refl }
  pair-step MkComb i j first second one two = record { numbers = neither-true _ _ one.is_there two.is_there; is_step = λ k. steps.mk_comb_step (one.named k) (two.named k); entries = refl }
  pair-step EqMp i j first second one two = record { numbers = neither-true _ _ one.is_there two.is_there; is_step = λ k. steps.eq_mp_step (one.named k) (two.named k); entries = refl }
  pair-step Deduct i j first second one two = record { numbers = neither-true _ _ one.is_there two.is_there; is_step = λ k. steps.deduct_step (one.named k) (two.named k); entries = refl }

  pub abs-step : (t i n : ℕ) (premise : Theorem) → NamesTerm state t terms n → NamesTheorem state i terms premise →
      IsStep state (abs_step t i) (steps.abs_step (term_at terms n) (sequent_in terms premise))
  abs-step t i n premise one two = record { numbers = neither-true _ _ one.is_there two.is_there; is_step = λ k. steps.abs_step (one.named k) (two.named k); entries = refl }

  pub inst-step : (i : ℕ) (lines pairs : List (ℕ × ℕ)) (premise : Theorem) → NamesTheorem state i terms premise → NamesTermPairs state lines terms pairs
      → IsStep state (inst_step i lines) (steps.inst_step (sequent_in terms premise) (term_pairs_in terms pairs))
  inst-step i lines pairs premise one two = record { numbers = neither-true _ _ one.is_there two.are_there; is_step = λ k. steps.inst_step (one.named k) (two.named k); entries = refl }

  pub inst_type-step : (types : List HolType) (i : ℕ) (lines pairs : List (ℕ × ℕ)) (premise : Theorem) → NamesTheorem state i terms premise → NamesTypePairs state lines types pairs
      → IsStep state (inst_type_step i lines) (steps.inst_type_step (sequent_in terms premise) (type_pairs_in types pairs))
  inst_type-step types i lines pairs premise one two = record { numbers = neither-true _ _ one.is_there two.are_there; is_step = λ k. steps.inst_type_step (one.named k) (two.named k); entries = refl }

pub eta-step : (state : LogState) → IsStep state eta_step steps.eta_step
eta-step state = record { numbers = refl; is_step = refl; entries = refl }

pub select-step : (state : LogState) → IsStep state select_step steps.select_step
select-step state = record { numbers = refl; is_step = refl; entries = refl }
