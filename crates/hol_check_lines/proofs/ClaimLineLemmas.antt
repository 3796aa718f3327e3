-- The lines of claims.
use Rattle.std.proofs.Common.{◌≡◌, ℕ, ◌+◌, ◌<◌, ◌||◌, List, [], ◌∷◌, ◌++◌, length, drop, get_or, Bool, true, false, not, ◌&&◌, refl, sym, ◌∙◌, ap, subst, Some, Ok, arith}
use Rattle.std.specs.Prelude.{slice_get, nat_eq, nat_le}
use Rattle.std.specs.List.{All, list_any}
use Rattle.std.specs.Str.{bytes_eq}
use Rattle.std.proofs.lemmas.List.{length-map}
use Rattle.std.proofs.lemmas.List.Elements.{All-head, All-tail}
use Rattle.std.proofs.lemmas.Option.{get_or_from_slice_get}
use Rattle.hol_model.specs.Terms.Name.{is_identifier}
use Rattle.hol_model.specs.Terms.Nameless.{Nameless, same_term}
use Rattle.hol_model.specs.Logs.LogLine.{claim_line}
use Rattle.hol_model.specs.Logs.LogState as given
use Rattle.hol_model.specs.Logs.LogState.{LogState, same_terms, set_of, terms_at}
use Rattle.hol_model.specs.Logs.LogSequents.{supposing}
use Rattle.hol_model.specs.Logs.LogFaults.{is_no_term}
use Rattle.hol_model.proofs.Tests.{same_term-Decides, first_of_both, second_of_both}
use Rattle.hol_model.proofs.Logs.LogTests.{same_terms-is}
use Rattle.hol_check_terms.specs.Table.{HaveOneNumber}
use Rattle.hol_check_terms.specs.Terms.{TermTable, term_at, IsGrown}
use Rattle.hol_check_rules.specs.Hypotheses.{terms_in}
use Rattle.hol_check_rules.specs.State.{sequent_in, state_of, IsContents}
use Rattle.hol_check_rules.specs.Judged.{NamesTerm, NamesTheorem, Judges}
use Rattle.hol_check_lines.specs.ClaimLines.{NamesTerms, is_sequent}
use Rattle.hol_check_rules.specs.declared.state.Theorem.{Theorem}
use Rattle.hol_check_rules.specs.declared.state.Contents.{Contents}
use Rattle.hol_check_rules.specs.declared.state.Addition.TheVariants.{Claimed}
use Rattle.hol_check_changes.specs.Forming.{IsFitting}
use Rattle.hol_check_terms.proofs.TableLemmas.{is_within}
use Rattle.hol_check_terms.proofs.TermLemmas.{same_term-same_number}
use Rattle.hol_check_rules.proofs.HypothesesLemmas.{drop-here}
use Rattle.hol_check_rules.proofs.StateLemmas.{state-still}
use Rattle.hol_check_lines.proofs.FaultLemmas.{no-fault, room, all-fit}

-- lists of numbers and of terms are the same at once

pub same-numbers : (terms : List Nameless) → HaveOneNumber terms → (xs ys : List ℕ) → All (IsFitting terms) xs → All (IsFitting terms) ys →
    bytes_eq xs ys ≡ same_terms (terms_in terms xs) (terms_in terms ys)
same-numbers terms one [] [] first second = refl
same-numbers terms one [] (y ∷ ys) first second = refl
same-numbers terms one (x ∷ xs) [] first second = refl
same-numbers terms one (x ∷ xs) (y ∷ ys) first second =
    let here : nat_eq x y ≡ same_term (term_at terms x) (term_at terms y) =
    same_term-same_number terms x y one (All-head (IsFitting terms) x xs first).within (All-head (IsFitting terms) y ys second).within in
    let rest : bytes_eq xs ys ≡ same_terms (terms_in terms xs) (terms_in terms ys) = same-numbers terms one xs ys (All-tail (IsFitting terms) x xs first) (All-tail (IsFitting terms) y ys second) in
    λ i. here i && rest i

-- the terms that a line names, as far as this place
pub record AreNumbered (state : LogState) (lines : List ℕ) (index : ℕ) (terms : List Nameless) (numbers : List ℕ) : Type 0 where
  pub there : list_any (is_no_term state) lines ≡ list_any (is_no_term state) (drop index lines)
  pub named : terms_in terms numbers ++ terms_at state (drop index lines) ≡ terms_at state lines
  pub fitting : All (IsFitting terms) numbers

module _ (state : LogState) (lines : List ℕ) (index line : ℕ) (within : index < length lines) (is : line ≡ get_or lines index 0) (terms : List Nameless) (numbers : List ℕ)
    (numbered : AreNumbered state lines index terms numbers) where
  here : drop index lines ≡ line ∷ drop (index + 1) lines
  here = drop-here lines index line within is

none-of-three : (p q r : Bool) → p ≡ false → q ≡ false → r ≡ false → (p || q || r) ≡ false
none-of-three p q r one two three = cc

below : (length i : ℕ) → nat_le length i ≡ false → i < length
below length i fails = grind (arith, fails)

pub judged-claim : (t0 t1 : TermTable) (contents : Contents) (name : List ℕ) (i c : ℕ) (hs : List ℕ) (proved : Theorem) (concluded : ℕ) (supposed ordered : List ℕ) (number : ℕ) →
    IsContents t0 contents → NamesTheorem (state_of t0 contents) i t0.terms proved
    → NamesTerm (state_of t0 contents) c t0.terms concluded → NamesTerms (state_of t0 contents) hs t0.terms supposed → is_identifier name ≡ true →
    terms_in t0.terms ordered ≡ set_of (terms_in t0.terms supposed)
    → is_sequent (term_at t0.terms concluded) (terms_in t0.terms ordered) (sequent_in t0.terms proved) ≡ true → slice_get t1.names number ≡ Some name → IsGrown t0 t1
    → Judges (claim_line name i c hs) contents t0 (Ok (Ok (Claimed (record { name = number; theorem = i })))) t1
judged-claim t0 t1 contents name i c hs proved concluded supposed ordered number is theorem conclusion hypotheses legal set concludes named grown = record {
  judged = record {
    accepted = no-fault state (claim_line name i c hs) refl (none-of-three _ _ _ theorem.is_there conclusion.is_there hypotheses.are_there) (ap not legal) refl refl refl (ap not whole)
        (all-fit _ _ _ _ refl refl refl (room t0 contents is));
    denotes = record {
      types = refl;
      terms = refl;
      theorems = refl;
      entries = refl;
      claims = λ j. record {
        name = sym (get_or_from_slice_get t1.names number name [] named) j;
        sequent =
            (claimed ∙ sym (ap (λ (s : LogState). given.theorem_at s i) (state-still t0 t1 grown contents is))) j;
      } ∷ [];
      ends = refl;
    };
    added = record {
      name = is_within t1.names number name named;
      theorem = subst (λ n. i < n) (length-map contents.theorems.items (sequent_in t0.terms)) (below (length state.theorems) i theorem.is_there);
    };
  };
  refused = tt;
  grows = grown;
}
  where
    state : LogState
    state = state_of t0 contents

    supposes : set_of (terms_at (state_of t0 contents) hs) ≡ terms_in t0.terms ordered
    supposes = sym (set ∙ ap set_of hypotheses.named)

    whole : is_sequent (given.term_at (state_of t0 contents) c) (set_of (terms_at (state_of t0 contents) hs)) (given.theorem_at (state_of t0 contents) i) ≡ true
    whole = (λ j. is_sequent (conclusion.named j) (supposes j) (theorem.named j)) ∙ concludes

    claimed : supposing (terms_at (state_of t0 contents) hs) (given.term_at (state_of t0 contents) c) ≡ given.theorem_at (state_of t0 contents) i
    claimed =
        let one = (same_term-Decides (given.term_at (state_of t0 contents) c) (given.theorem_at (state_of t0 contents) i).conclusion).0
        (first_of_both (same_term (given.term_at (state_of t0 contents) c) (given.theorem_at (state_of t0 contents) i).conclusion)
        (same_terms (set_of (terms_at (state_of t0 contents) hs)) (given.theorem_at (state_of t0 contents) i).hypotheses) whole) in
        let two = same_terms-is (set_of (terms_at (state_of t0 contents) hs)) (given.theorem_at (state_of t0 contents) i).hypotheses
        (second_of_both (same_term (given.term_at (state_of t0 contents) c) (given.theorem_at (state_of t0 contents) i).conclusion)
        (same_terms (set_of (terms_at (state_of t0 contents) hs)) (given.theorem_at (state_of t0 contents) i).hypotheses) whole) in
        λ j. record { hypotheses = two j; conclusion = one j }
