-- Trying the places that the net finds, one after another.
use Rattle.std.proofs.Common.{◌≡◌, ◌⊎◌, inl, inr, ℕ, zero, suc, ◌+◌, ◌<◌, ◌≤◌, List, [], ◌∷◌, Bool, true, false, refl, sym, ◌∙◌, ap, subst, Some, None, arith, length, take, drop, get_or, add-one}
use Rattle.std.proofs.Math.Seq.{take-suc}
use Rattle.std.specs.Prelude.{slice_get}
use Rattle.std.specs.Option.{option_map, option_map_or}
use Rattle.std.proofs.lemmas.Option.{slice_get-map}
use Rattle.std.proofs.lemmas.List.{take-append-drop}
use Rattle.hol_model.specs.Logic.Derivable.{IsMember}
use Rattle.hol_model.specs.Terms.NamedTerm.{NamedTerm}
use Rattle.hol_model.specs.declared.fault.Fault.{Fault}
use Rattle.hol_model.specs.declared.fault.Fault.TheVariants.{Memory, NoMatch}
use Rattle.hol_model.proofs.Terms.Membership.{of_append}
use Rattle.hol_model.specs.Rewrites.Matching.{fits, HasNoMatch}
use Rattle.hol_match.proofs.Agreement.{matching_patterns_fit}
use Rattle.hol_model.specs.Rewrites.Places.{places_where}
use Rattle.hol_net.proofs.Ascending.{Rising, above_low, in_places, rising_places}
use Rattle.hol_rewrite.specs.declared.choice.LeftSide.{LeftSide}
use Rattle.hol_model.specs.Rewrites.Choice.{Side, patterns_of, DoesNotMatch, NoneMatches}
use Rattle.hol_rewrite.specs.Sides.{viewed_sides}

-- a left side by its place
pub side_here : (sides : List LeftSide) (place : ℕ) (side other : LeftSide) → place < length sides → side ≡ get_or sides place other
    → slice_get (viewed_sides sides) place ≡ Some (side.fixed.items, side.pattern)
side_here [] place side other within is = absurd (omega arith)
side_here (first ∷ rest) zero side other within is = ap (λ (s : LeftSide). Some (s.fixed.items, s.pattern)) (sym is)
side_here (first ∷ rest) (suc place) side other within is = side_here rest place side other (omega arith) is

-- a refusal says that there is no match
pub refused_match : (fault : Fault) (fixed : List NamedTerm) (pattern term : NamedTerm) → (fault ≡ Memory) ⊎ ((fault ≡ NoMatch) × HasNoMatch fixed pattern term) → fault ≡ NoMatch
    → HasNoMatch fixed pattern term
refused_match fault fixed pattern term (inl memory) is = let same : NoMatch ≡ Memory = sym is ∙ memory in cc
refused_match fault fixed pattern term (inr none) is = none.1

pub does_not_match : (sides : List Side) (term : NamedTerm) (place : ℕ) (side : Side) → slice_get sides place ≡ Some side → HasNoMatch side.0 side.1 term → DoesNotMatch sides term place
does_not_match sides term place side at none = record {
  refused = λ other is.
      let same : side ≡ other = cc in
      subst (λ (s : Side). HasNoMatch s.0 s.1 term) same none;
}

-- a pattern that does not fit does not match
unfit : (fixed : List NamedTerm) (pattern term : NamedTerm) → fits pattern term ≡ false → HasNoMatch fixed pattern term
unfit fixed pattern term failed tau theta match = let fit : fits pattern term ≡ true = matching_patterns_fit fixed pattern term tau theta match in cc

-- a left side that fits is at a place that the net finds
fitting_place : (sides : List Side) (term : NamedTerm) (place : ℕ) (side : Side) → slice_get sides place ≡ Some side → fits side.1 term ≡ true
    → IsMember place (places_where (λ pattern. fits pattern term) (patterns_of sides))
fitting_place sides term place side at fit =
    let found : slice_get (patterns_of sides) place ≡ Some side.1 = slice_get-map (λ (s : Side). s.1) sides place ∙ ap (option_map (λ (s : Side). s.1)) at in
    in_places (λ pattern. fits pattern term) 0 place place (patterns_of sides) (omega arith) (ap (λ o. option_map_or (λ pattern. fits pattern term) o false) found ∙ fit)

-- what comes from a place of an ascending list on is not below it
from_place_on : (low : ℕ) (xs : List ℕ) (index n : ℕ) → Rising low xs → index < length xs → IsMember n (drop index xs) → get_or xs index 0 ≤ n
from_place_on low [] index n rising within member = absurd (omega arith)
from_place_on low (x ∷ xs) zero n rising within (inl same) = omega arith
from_place_on low (x ∷ xs) zero n rising within (inr member) = let later : suc x ≤ n = above_low (suc x) xs n rising.1 member in omega arith
from_place_on low (x ∷ xs) (suc index) n rising within member = from_place_on (suc x) xs index n rising.1 (omega arith) member

before_place : (xs : List ℕ) (index n : ℕ) → Rising 0 xs → index < length xs → IsMember n xs → n < get_or xs index 0 → IsMember n (take index xs)
before_place xs index n rising within member below =
    go (of_append n (take index xs) (drop index xs) (subst (λ (list : List ℕ). IsMember n list) (sym (take-append-drop index xs)) member))
  where
    go : IsMember n (take index xs) ⊎ IsMember n (drop index xs) → IsMember n (take index xs)
    go (inl earlier) = earlier
    go (inr later) = let above : get_or xs index 0 ≤ n = from_place_on 0 xs index n rising within later in absurd (omega arith)

-- the places before those that were tried do not match
pub earlier_fails : (sides : List Side) (term : NamedTerm) (places : List ℕ) (index place earlier : ℕ)
    → places ≡ places_where (λ pattern. fits pattern term) (patterns_of sides) → index < length places → place ≡ get_or places index 0
    → ((n : ℕ) → IsMember n (take index places) → DoesNotMatch sides term n) → earlier < place → DoesNotMatch sides term earlier
earlier_fails sides term places index place earlier found within is tried below = record { refused = λ side at. go side at (fits side.1 term) refl }
  where
    rising : Rising 0 places
    rising = rw found (rising_places (λ pattern. fits pattern term) 0 (patterns_of sides))

    go : (side : Side) → slice_get sides earlier ≡ Some side → (fit : Bool) → fits side.1 term ≡ fit → HasNoMatch side.0 side.1 term
    go side at false failed = unfit side.0 side.1 term failed
    go side at true passed =
        let member : IsMember earlier places = rw found (fitting_place sides term earlier side at passed) in
        let lower : earlier < get_or places index 0 = omega arith in
        (tried earlier (before_place places index earlier rising within member lower)).refused side at

-- and where all were tried, none does
pub all_fail : (sides : List Side) (term : NamedTerm) (places : List ℕ) → places ≡ places_where (λ pattern. fits pattern term) (patterns_of sides)
    → ((n : ℕ) → IsMember n places → DoesNotMatch sides term n) → NoneMatches sides term
all_fail sides term places found tried = record { refused = λ place. record { refused = λ side at. go place side at (fits side.1 term) refl } }
  where
    go : (place : ℕ) (side : Side) → slice_get sides place ≡ Some side → (fit : Bool) → fits side.1 term ≡ fit → HasNoMatch side.0 side.1 term
    go place side at false failed = unfit side.0 side.1 term failed
    go place side at true passed = (tried place (rw found (fitting_place sides term place side at passed))).refused side at

-- one more place was tried
pub tried_more : (sides : List Side) (term : NamedTerm) (places : List ℕ) (index place : ℕ) → index < length places → place ≡ get_or places index 0
    → ((n : ℕ) → IsMember n (take index places) → DoesNotMatch sides term n) → DoesNotMatch sides term place
    → (n : ℕ) → IsMember n (take (index + 1) places) → DoesNotMatch sides term n
tried_more sides term places index place within is tried here n member =
    go (of_append n (take index places) (get_or places index 0 ∷ []) (subst (λ (list : List ℕ). IsMember n list) (rw add-one (take-suc places index 0 within)) member))
  where
    go : IsMember n (take index places) ⊎ IsMember n (get_or places index 0 ∷ []) → DoesNotMatch sides term n
    go (inl earlier) = tried n earlier
    go (inr (inl same)) = let at : place ≡ n = is ∙ sym same in subst (λ (p : ℕ). DoesNotMatch sides term p) at here
    go (inr (inr none)) = absurd none
