-- The terms that lines name.
use Rattle.std.proofs.Common.{◌≡◌, ℕ, zero, suc, Bool, ◌<◌, ◌≤◌, List, [], ◌∷◌, map, length, get_or, true, false, refl, sym, ◌∙◌, ap, subst, Some, None, arith, nat_le}
use Rattle.std.specs.Prelude.{slice_get, nat_eq, nat_lt}
use Rattle.std.specs.Map.{lookup}
use Rattle.std.proofs.lemmas.Bool.{le-leb, ltb-true}
use Rattle.std.proofs.lemmas.List.{length-map}
use Rattle.std.proofs.lemmas.Option.{slice_get-get_or, slice_get_read}
use Rattle.hol_model.specs.Terms.NamedTerm.{NamedTerm}
use Rattle.hol_model.specs.Terms.Nameless.{bound, image}
use Rattle.hol_model.specs.Terms.Measures.{nameless_within_limits}
use Rattle.hol_model.specs.Logs.LogState as given
use Rattle.hol_model.specs.Logs.LogFaults.{is_no_term}
use Rattle.hol_model.proofs.Terms.WithinLimits.{within_limits-image}
use Rattle.hol_check_terms.specs.Terms.{TermTable, term_at}
use Rattle.hol_check_terms.proofs.TableLemmas.{is_within}
use Rattle.hol_check_terms.proofs.GrowthLemmas.{term-there}
use Rattle.hol_check_written.specs.Written.{named_at, named_terms}
use Rattle.hol_check_written.specs.declared.written.Written.{Written}
use Rattle.hol_check_written.proofs.NamedLemmas.{named-length, named-line}
use Rattle.hol_check_written.proofs.MakingLemmas.{unwritten}
use Rattle.hol_check_written.proofs.WritesLemmas.{within-limits}
use Rattle.hol_check_rules.specs.State.{state_of, IsContents}
use Rattle.hol_check_rules.specs.Judged.{NamesWritten, NamesTerm, IsMadeLine}
use Rattle.hol_check_rules.specs.declared.state.Contents.{Contents}
use Rattle.hol_check_rules.proofs.KnownLemmas.{lookup-entry, lookup-none}

over : (n limit : ℕ) → limit < n → nat_le n limit ≡ false
over n limit past = grind arith

module _ (table : TermTable) (contents : Contents) (is : IsContents table contents) (line : ℕ) where
  terms-length : length (state_of table contents).terms ≡ length contents.terms.items
  terms-length = length-map (named_terms table.terms contents.terms.items) image ∙ named-length table.terms contents.terms.items

  is-there : line < length contents.terms.items → is_no_term (state_of table contents) line ≡ false
  is-there within = let same = terms-length in over (length (state_of table contents).terms) line (omega (arith, same, within))

  pub no-line : length contents.terms.items ≤ line → is_no_term (state_of table contents) line ≡ true
  no-line past = let same = terms-length in le-leb (length (state_of table contents).terms) line (omega (arith, same, past))

  mapped : (named : List NamedTerm) (place : ℕ) → place < length named → get_or (map image named) place (bound 0) ≡ image (named_at named place)
  mapped [] place within = absurd (omega (arith, within))
  mapped (first ∷ rest) zero within = refl
  mapped (first ∷ rest) (suc place) within = mapped rest place (omega (arith, within))

  named-image : line < length contents.terms.items → given.term_at (state_of table contents) line ≡ image (named_at (named_terms table.terms contents.terms.items) line)
  named-image within = let count = named-length table.terms contents.terms.items in mapped (named_terms table.terms contents.terms.items) line (omega (arith, count, within))

  pub written-named : (written : Written) → slice_get contents.terms.items line ≡ Some written → NamesWritten table contents line written
  written-named written there =
      let within = is_within contents.terms.items line written there in
      let kept = is.terms line written there in
      record {
        is_there = is-there within;
        within = within;
        named = named-image within;
        is_shape = named-line table contents.terms.items line written is.terms there;
        parts = kept.parts;
        writes = kept.writes;
      }

  pub made-named : (number : ℕ) → Some number ≡ lookup (nat_eq line) contents.made.entries → NamesTerm (state_of table contents) line table.terms number
  made-named number found =
      let made = is.made.numbered line number (lookup-entry line number contents.made.entries found) in
      let kept = is.terms line _ (slice_get-get_or contents.terms.items line unwritten made.line_within) in
      let there : term_at table.terms number ≡ image (named_at (named_terms table.terms contents.terms.items) line) = term-there table.terms number _ made.number_is in
      record {
        is_there = is-there made.line_within;
        named = named-image made.line_within ∙ sym there;
        fits = record {
          within = is_within table.terms number _ made.number_is;
          fits = ap nameless_within_limits there ∙ within_limits-image (named_at (named_terms table.terms contents.terms.items) line) _ kept.writes.typed
              (within-limits table (named_at (named_terms table.terms contents.terms.items) line) _ kept.writes);
        };
      }

  pub not-made : None ≡ lookup (nat_eq line) contents.made.entries → IsMadeLine contents line → is_no_term (state_of table contents) line ≡ true
  not-made none made = go (nat_le (length contents.terms.items) line) refl
    where
      go : (test : Bool) → nat_le (length contents.terms.items) line ≡ test → is_no_term (state_of table contents) line ≡ true
      go true past = ap (λ n. nat_le n line) terms-length ∙ past
      go false within = let entry = made.is_made (below (length contents.terms.items) line within) in absurd (lookup-none line entry.0 contents.made.entries none entry.1)
        where
          below : (n i : ℕ) → nat_le n i ≡ false → i < n
          below n i fails = grind (arith, fails)

-- what a list answers

pub found-there : (xs ys : List Written) (n : ℕ) (x : Written) → xs ≡ ys → true ≡ nat_lt n (length xs) → x ≡ get_or xs n x → slice_get ys n ≡ Some x
found-there xs ys n x same within is = subst (λ (l : List Written). slice_get l n ≡ Some x) same (slice_get_read xs (length xs) n x refl (ltb-true n (length xs) (sym within)) is)

pub past-end : (xs ys : List Written) (n : ℕ) → xs ≡ ys → false ≡ nat_lt n (length xs) → length ys ≤ n
past-end xs ys n same fails = let lengths : length xs ≡ length ys = ap length same in grind (arith, lengths, fails)
