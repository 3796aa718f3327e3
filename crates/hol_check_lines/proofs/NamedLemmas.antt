-- The terms that are made before a line is judged.
use Rattle.std.proofs.Common.{◌≡◌, ℕ, ◌+◌, ◌<◌, ◌≤◌, List, length, get_or, Bool, true, false, refl, sym, ◌∙◌, ap, subst, Some, Result, Ok, Err, arith, nat_le}
use Rattle.std.specs.Prelude.{slice_get, nat_lt, OnOk}
use Rattle.std.proofs.lemmas.Option.{slice_get-get_or, get_or_from_slice_get}
use Rattle.hol_model.specs.declared.fault.Fault.{Fault}
use Rattle.std.specs.List.{All}
use Rattle.hol_check_terms.specs.Terms.{TermTable, IsGrown}
use Rattle.hol_check_terms.proofs.TableLemmas.{IsLonger-same}
use Rattle.hol_check_terms.proofs.GrowthLemmas.{IsGrown-trans}
use Rattle.hol_check_written.specs.Making.{HasEntry, Stays, AreMade}
use Rattle.hol_check_written.proofs.MakingLemmas.{Stays-same, Stays-trans}
use Rattle.hol_check_rules.specs.State.{state_of, IsContents}
use Rattle.hol_check_rules.specs.Judged.{IsMadeLine}
use Rattle.hol_check_rules.specs.declared.state.Contents.{Contents}
use Rattle.hol_check_rules.proofs.StateLemmas.{state-still, contents-grown}
use Rattle.hol_check_lines.specs.Named.{IsMadePair, Makes}

-- the elements before this place are made
pub record AreMadeSoFar {Element : Type 0} (IsMade : Contents → Element → Type 0) (elements : List Element) (index : ℕ) (earlier now : TermTable) (contents later : Contents) : Type 0 where
  pub made : (place : ℕ) (element : Element) → place < index → slice_get elements place ≡ Some element → IsMade later element
  pub makes : Makes earlier now contents later

pub IsGrown-same : (table : TermTable) → IsGrown table table
IsGrown-same table = record { names = IsLonger-same table.names; types = IsLonger-same table.types; terms = IsLonger-same table.terms }

pub Makes_same : (table : TermTable) (contents : Contents) → IsContents table contents → Makes table table contents contents
Makes_same table contents is = record { grows = IsGrown-same table; is_contents = is; same = refl; stays = Stays-same contents.made.entries }

pub Makes_trans : (t0 t1 t2 : TermTable) (c0 c1 c2 : Contents) → Makes t0 t1 c0 c1 → Makes t1 t2 c1 c2 → Makes t0 t2 c0 c2
Makes_trans t0 t1 t2 c0 c1 c2 first second = record {
  grows = IsGrown-trans t0 t1 t2 first.grows second.grows;
  is_contents = second.is_contents;
  same = second.same ∙ ap (λ (c : Contents). record c { made = c2.made }) first.same;
  stays = Stays-trans c0.made.entries c1.made.entries c2.made.entries first.stays second.stays;
}

same-terms : (t0 t1 : TermTable) (c0 c1 : Contents) → Makes t0 t1 c0 c1 → c1.terms.items ≡ c0.terms.items
same-terms t0 t1 c0 c1 makes = ap (λ (c : Contents). c.terms.items) makes.same

-- what was made stays made
pub line-stays : (t0 t1 : TermTable) (c0 c1 : Contents) → Makes t0 t1 c0 c1 → (line : ℕ) → IsMadeLine c0 line → IsMadeLine c1 line
line-stays t0 t1 c0 c1 makes line made = record { is_made = λ within. makes.stays.stays line (made.is_made (subst (λ l. line < length l) (same-terms t0 t1 c0 c1 makes) within)) }

pub pair-stays : (t0 t1 : TermTable) (c0 c1 : Contents) → Makes t0 t1 c0 c1 → (pair : ℕ × ℕ) → IsMadePair c0 pair → IsMadePair c1 pair
pair-stays t0 t1 c0 c1 makes pair made = record { new = line-stays t0 t1 c0 c1 makes pair.0 made.new; old = line-stays t0 t1 c0 c1 makes pair.1 made.old }

-- the state stays as it is
pub state-made : (t0 t1 : TermTable) (c0 c1 : Contents) → Makes t0 t1 c0 c1 → IsContents t0 c0 → state_of t1 c1 ≡ state_of t0 c0
state-made t0 t1 c0 c1 makes is = ap (state_of t1) makes.same ∙ state-still t0 t1 makes.grows c0 is

-- a term that was made
pub made_line : (t0 t1 : TermTable) (c0 c1 : Contents) → IsContents t0 c0 → IsGrown t0 t1 → c1 ≡ record c0 { made = c1.made } → AreMade t1 c0.terms.items c1.made.entries →
    Stays c0.made.entries c1.made.entries → Makes t0 t1 c0 c1
made_line t0 t1 c0 c1 is grown same made stays =
    let later = contents-grown t0 t1 grown c0 is in
    record {
      grows = grown;
      is_contents = subst (IsContents t1) (sym same) (record {
        types = later.types;
        terms = later.terms;
        made = made;
        theorems = later.theorems;
        entries = later.entries;
        room = later.room;
        knows = later.knows;
        claims = later.claims;
      });
      same = same;
      stays = stays;
    }

-- one line after another

last-or-earlier : {Element : Type 0} (IsMade : Contents → Element → Type 0) → ((t t' : TermTable) (c c' : Contents) → Makes t t' c c' → (element : Element) → IsMade c element → IsMade c' element)
    → (elements : List Element) (index : ℕ) (t0 t1 t2 : TermTable) (c0 c1 c2 : Contents) (filler : Element) → AreMadeSoFar IsMade elements index t0 t1 c0 c1 → Makes t1 t2 c1 c2 →
    IsMade c2 (get_or elements index filler)
    → (place : ℕ) (element : Element) → place < index + 1 → slice_get elements place ≡ Some element → (test : Bool) → nat_lt place index ≡ test → IsMade c2 element
last-or-earlier IsMade stays elements index t0 t1 t2 c0 c1 c2 filler so_far makes made place element below there true is =
    stays t1 t2 c1 c2 makes element (so_far.made place element (earlier place index is) there)
  where
    earlier : (n i : ℕ) → nat_lt n i ≡ true → n < i
    earlier n i is = grind (arith, is)
last-or-earlier IsMade stays elements index t0 t1 t2 c0 c1 c2 filler so_far makes made place element below there false is =
    subst (IsMade c2) (get_or_from_slice_get elements index element filler (subst (λ n. slice_get elements n ≡ Some element) (here place index below is) there)) made
  where
    here : (n i : ℕ) → n < i + 1 → nat_lt n i ≡ false → n ≡ i
    here n i below is = grind (arith, below, is)

pub so-far-more : {Element : Type 0} (IsMade : Contents → Element → Type 0) → ((t t' : TermTable) (c c' : Contents) → Makes t t' c c' → (element : Element) → IsMade c element → IsMade c' element)
    → (elements : List Element) (index : ℕ) (t0 t1 t2 : TermTable) (c0 c1 c2 : Contents) (filler : Element) → AreMadeSoFar IsMade elements index t0 t1 c0 c1 → Makes t1 t2 c1 c2 →
    IsMade c2 (get_or elements index filler)
    → AreMadeSoFar IsMade elements (index + 1) t0 t2 c0 c2
so-far-more IsMade stays elements index t0 t1 t2 c0 c1 c2 filler so_far makes made = record {
  made = λ place element below there. last-or-earlier IsMade stays elements index t0 t1 t2 c0 c1 c2 filler so_far makes made place element below there (nat_lt place index) refl;
  makes = Makes_trans t0 t1 t2 c0 c1 c2 so_far.makes makes;
}

pub so-far-done : {Element : Type 0} (IsMade : Contents → Element → Type 0) (elements : List Element) (index : ℕ) (t0 t1 : TermTable) (c0 c1 : Contents) →
    AreMadeSoFar IsMade elements index t0 t1 c0 c1 → length elements ≤ index → All (IsMade c1) elements
so-far-done IsMade elements index t0 t1 c0 c1 so_far past = λ k d within. so_far.made k (get_or elements k d) (omega (arith, past, within)) (slice_get-get_or elements k d within)

-- two after one another
pub made_both : (t1 t2 : TermTable) (c1 c2 : Contents) (pair : ℕ × ℕ) → Makes t1 t2 c1 c2 → IsMadeLine c1 pair.0 → IsMadeLine c2 pair.1 → IsMadePair c2 pair
made_both t1 t2 c1 c2 pair makes one two = record { new = line-stays t1 t2 c1 c2 makes pair.0 one; old = two }

pub made_claim : (result : Result (Unit {0}) Fault) (t1 t2 : TermTable) (c1 c2 : Contents) (conclusion : ℕ) (hypotheses : List ℕ) → Makes t1 t2 c1 c2 → All (IsMadeLine c1) hypotheses →
    OnOk result (IsMadeLine c2 conclusion)
    → OnOk result (IsMadeLine c2 conclusion × All (IsMadeLine c2) hypotheses)
made_claim (Ok done) t1 t2 c1 c2 conclusion hypotheses makes all one = (one, λ k d within. line-stays t1 t2 c1 c2 makes (get_or hypotheses k d) (all k d within))
made_claim (Err fault) t1 t2 c1 c2 conclusion hypotheses makes all one = tt

-- a line that is not there
pub no_line_made : (contents : Contents) (line : ℕ) → nat_le (length contents.terms.items) line ≡ true → IsMadeLine contents line
no_line_made contents line past = record { is_made = λ within. absurd (go (length contents.terms.items) line past within) }
  where
    go : (n i : ℕ) → nat_le n i ≡ true → i < n → ⊥
    go n i past within = grind (arith, past, within)

-- a line that is there
pub there-made : (result : Result (Unit {0}) Fault) (contents : Contents) (line : ℕ) → OnOk result (HasEntry contents.made.entries line) → OnOk result (IsMadeLine contents line)
there-made (Ok done) contents line there = record { is_made = λ within. there }
there-made (Err fault) contents line there = tt
