-- The pairs that a line names, by what is looked up for each.
use Rattle.std.proofs.Common.{◌≡◌, ℕ, suc, ◌+◌, ◌<◌, ◌||◌, List, [], ◌∷◌, ◌++◌, length, map, take, get_or, Bool, true, false, refl, sym, ◌∙◌, ap, subst, arith, Vec, Global}
use Rattle.std.specs.Prelude.{IfOk, Option, None, Some, Result, Ok, Err}
use Rattle.std.specs.List.{All, AllZip, list_any}
use Rattle.std.proofs.Math.Seq.{take-suc}
use Rattle.std.proofs.Math.Bool.{or-true}
use Rattle.std.proofs.lemmas.List.Folds.{list_any-from_Any}
use Rattle.std.proofs.lemmas.List.Elements.{All-nil, All-cons, All-head, All-tail, AllZip-push}
use Rattle.hol_model.specs.Terms.HolType.{HolType}
use Rattle.hol_model.specs.Terms.Nameless.{Nameless}
use Rattle.hol_model.specs.Logs.LogState as given
use Rattle.hol_model.specs.Logs.LogState.{LogState}
use Rattle.hol_model.specs.Logs.LogFaults.{is_no_term, is_no_type}
use Rattle.hol_check_terms.specs.Terms.{TermTable, type_at, term_at}
use Rattle.hol_check_rules.specs.State.{state_of}
use Rattle.hol_check_rules.specs.Judged.{IsMadeLine, FindsTerm, FindsType}
use Rattle.hol_check_rules.specs.StepPairs.{IsFittingPair, IsTypePair, FindsTermPairs, FindsTypePairs}
use Rattle.hol_check_rules.specs.declared.state.Contents.{Contents}
use Rattle.hol_check_lines.specs.Named.{IsMadePair}
use Rattle.hol_check_lines.specs.LookedUp.{IsPair, LacksOne, FindsPairs}
use Rattle.hol_check_lines.specs.LookedUp.LacksOne.{no-new, no-old}
use Rattle.hol_check_lines.proofs.TypeLineLemmas.{neither}

-- one more pair
pub pairs-more : (R : ℕ × ℕ → ℕ × ℕ → Type 0) (lines : List (ℕ × ℕ)) (index : ℕ) (filler : ℕ × ℕ) → index < length lines → (pairs later : List (ℕ × ℕ)) (pair : ℕ × ℕ) →
    AllZip R (take index lines) pairs → R (get_or lines index filler) pair → later ≡ pairs ++ pair ∷ [] → AllZip R (take (index + 1) lines) later
pairs-more R lines index filler within pairs later pair found one pushed =
    let more : index + 1 ≡ suc index = omega arith in
    let longer : AllZip R (take index lines ++ get_or lines index filler ∷ []) later =
    subst (AllZip R (take index lines ++ get_or lines index filler ∷ [])) (sym pushed) (AllZip-push R (take index lines) pairs (get_or lines index filler) pair found one) in
    subst (λ l. AllZip R l later) (sym (ap (λ n. take n lines) more ∙ take-suc lines index filler within)) longer

-- pairs of values, which the tables have where a line names some
module _ {Value : Type 0} (is_no : ℕ → Bool) (at here : ℕ → Value) (Fits : ℕ × ℕ → Type 0) where
  abbrev pub is_missing : ℕ × ℕ → Bool
  is_missing pair = is_no pair.0 || is_no pair.1

  abbrev pub both : (ℕ → Value) → ℕ × ℕ → Value × Value
  both value pair = (value pair.0, value pair.1)

  pub record IsNamed (line pair : ℕ × ℕ) : Type 0 where
    pub is_there : is_missing line ≡ false
    pub named : both at line ≡ both here pair
    pub fits : Fits pair

  pub record AreNamed (lines pairs : List (ℕ × ℕ)) : Type 0 where
    pub are_there : list_any is_missing lines ≡ false
    pub named : map (both at) lines ≡ map (both here) pairs
    pub fitting : All Fits pairs

  -- each pair of the tables is named, if each line that is made has its pair
  pub all-named : (Made : ℕ × ℕ → Type 0) (R : ℕ × ℕ → ℕ × ℕ → Type 0) → ((line pair : ℕ × ℕ) → Made line → R line pair → IsNamed line pair) →
      (lines pairs : List (ℕ × ℕ)) → All Made lines → AllZip R lines pairs → AreNamed lines pairs
  all-named Made R one [] [] made zipped = record { are_there = refl; named = refl; fitting = All-nil Fits }
  all-named Made R one [] (pair ∷ pairs) made zipped = absurd zipped
  all-named Made R one (line ∷ lines) [] made zipped = absurd zipped
  all-named Made R one (line ∷ lines) (pair ∷ pairs) made zipped =
      let first = one line pair (All-head Made line lines made) zipped.0 in
      let rest = all-named Made R one lines pairs (All-tail Made line lines made) zipped.1 in
      record {
        are_there = ap (λ b. b || list_any is_missing lines) first.is_there ∙ rest.are_there;
        named = (λ i. first.named i ∷ rest.named i);
        fitting = All-cons Fits pair pairs first.fits rest.fitting;
      }

  -- a line that names nothing
  pub lacking : (Gives : ℕ → Option ℕ → Type 0) (line : ℕ × ℕ) → (Gives line.0 None → is_no line.0 ≡ true) → (Gives line.1 None → is_no line.1 ≡ true)
      → LacksOne Gives line → is_missing line ≡ true
  lacking Gives line first second (no-new none) = ap (λ b. b || is_no line.1) (first none)
  lacking Gives line first second (no-old none) = ap (λ b. is_no line.0 || b) (second none) ∙ or-true (is_no line.0)

-- the pairs of terms
module _ (table : TermTable) (contents : Contents) (Gives : ℕ → Option ℕ → Type 0)
    (gives : (line : ℕ) (found : Option ℕ) → Gives line found → IsMadeLine contents line → FindsTerm (state_of table contents) line table.terms found) where
  abbrev state : LogState
  state = state_of table contents

  one-term-pair : (line pair : ℕ × ℕ) → IsMadePair contents line → IsPair Gives line pair
      → IsNamed (is_no_term state) (given.term_at state) (term_at table.terms) (IsFittingPair table.terms) line pair
  one-term-pair line pair made given' =
      let new = gives line.0 (Some pair.0) given'.new made.new in
      let old = gives line.1 (Some pair.1) given'.old made.old in
      record { is_there = neither _ _ new.is_there old.is_there; named = (λ i. (new.named i, old.named i)); fits = record { new = new.fits; old = old.fits } }

  found-terms : (lines : List (ℕ × ℕ)) → All (IsMadePair contents) lines → (found : Option (Vec (ℕ × ℕ) Global)) → FindsPairs Gives lines found → FindsTermPairs state lines table.terms found
  found-terms lines made None (index, line, within, is, lacks) =
      let is_made = subst (IsMadePair contents) is (made index line within) in
      let missing = lacking {Value = Nameless} (is_no_term state) (given.term_at state) (term_at table.terms) (IsFittingPair table.terms) Gives line
      (λ none. gives line.0 None none is_made.new) (λ none. gives line.1 None none is_made.old) lacks in
      list_any-from_Any (λ pair. is_no_term state pair.0 || is_no_term state pair.1) lines (index, line, within, is, missing)
  found-terms lines made (Some pairs) zipped =
      let all = all-named {Value = Nameless} (is_no_term state) (given.term_at state) (term_at table.terms) (IsFittingPair table.terms) (IsMadePair contents)
      (IsPair Gives) one-term-pair lines pairs.items made zipped in
      record { are_there = all.are_there; named = all.named; fitting = all.fitting }

pub term-pairs-found : {E : Type 0} (table : TermTable) (contents : Contents) (Gives : ℕ → Option ℕ → Type 0) (lines : List (ℕ × ℕ)) → All (IsMadePair contents) lines →
    (result : Result (Option (Vec (ℕ × ℕ) Global)) E) → IfOk result (FindsPairs Gives lines) →
    ((line : ℕ) (found : Option ℕ) → Gives line found → IsMadeLine contents line → FindsTerm (state_of table contents) line table.terms found) →
    IfOk result (FindsTermPairs (state_of table contents) lines table.terms)
term-pairs-found table contents Gives lines made (Ok found) finds gives = found-terms table contents Gives gives lines made found finds
term-pairs-found table contents Gives lines made (Err fault) finds gives = tt

-- the pairs of types
module _ (table : TermTable) (contents : Contents) (Gives : ℕ → Option ℕ → Type 0)
    (gives : (line : ℕ) (found : Option ℕ) → Gives line found → FindsType (state_of table contents) line table.types found) where
  abbrev its_state : LogState
  its_state = state_of table contents

  one-type-pair : (line pair : ℕ × ℕ) → Unit {0} → IsPair Gives line pair
      → IsNamed (is_no_type its_state) (given.type_at its_state) (type_at table.types) (IsTypePair table.types) line pair
  one-type-pair line pair made given' =
      let new = gives line.0 (Some pair.0) given'.new in
      let old = gives line.1 (Some pair.1) given'.old in
      record { is_there = neither _ _ new.is_there old.is_there; named = (λ i. (new.named i, old.named i)); fits = record { new = new.within; old = old.within } }

  found-types : (lines : List (ℕ × ℕ)) (found : Option (Vec (ℕ × ℕ) Global)) → FindsPairs Gives lines found → FindsTypePairs its_state lines table.types found
  found-types lines None (index, line, within, is, lacks) =
      let missing = lacking {Value = HolType} (is_no_type its_state) (given.type_at its_state) (type_at table.types) (IsTypePair table.types) Gives line
      (gives line.0 None) (gives line.1 None) lacks in
      list_any-from_Any (λ pair. is_no_type its_state pair.0 || is_no_type its_state pair.1) lines (index, line, within, is, missing)
  found-types lines (Some pairs) zipped =
      let all = all-named {Value = HolType} (is_no_type its_state) (given.type_at its_state) (type_at table.types) (IsTypePair table.types) (λ _. Unit {0})
      (IsPair Gives) one-type-pair lines pairs.items (λ _ _ _. tt) zipped in
      record { are_there = all.are_there; named = all.named; within = all.fitting }

pub type-pairs-found : {E : Type 0} (table : TermTable) (contents : Contents) (Gives : ℕ → Option ℕ → Type 0) (lines : List (ℕ × ℕ)) →
    (result : Result (Option (Vec (ℕ × ℕ) Global)) E) → IfOk result (FindsPairs Gives lines) →
    ((line : ℕ) (found : Option ℕ) → Gives line found → FindsType (state_of table contents) line table.types found) →
    IfOk result (FindsTypePairs (state_of table contents) lines table.types)
type-pairs-found table contents Gives lines (Ok found) finds gives = found-types table contents Gives gives lines found finds
type-pairs-found table contents Gives lines (Err fault) finds gives = tt
