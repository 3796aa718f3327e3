-- Parts of formulas that are put behind those that they are made of.
use Rattle.std.proofs.Common.{◌≡◌, ◌⊎◌, inl, inr, ℕ, zero, suc, ◌<◌, ◌≤◌, ◌+◌, List, [], ◌∷◌, ◌++◌, length, Bool, true, false, not, get_or, Some, Result, Ok, Err, IfOk}
use Rattle.std.proofs.Common.{refl, sym, ◌∙◌, ap, ap₂, subst, arith, rules, if◌then◌else◌}
use Rattle.std.specs.Prelude.{nat_lt, slice_get}
use Rattle.std.specs.List.{list_any}
use Rattle.std.proofs.lemmas.List.{length_push, get_or_append_left, get_or-append-add}
use Rattle.std.proofs.lemmas.Bool.{ltb-true}
use Rattle.std.proofs.lemmas.Option.{slice_get_read, slice_get_within}
use Rattle.indexmap.specs.IndexSet.{insert_key}
use Rattle.hol_model.specs.declared.fault.Fault.{Fault}
use Rattle.hol_model.specs.Terms.NamedTerm.{NamedTerm}
use Rattle.hol_model.specs.Propositional.Propositions.{Proposition, proposition, atom, constantly, negated, connected, atom_places, with_new_terms, truth_table, is_true_by}
use Rattle.hol_model.specs.Propositional.Tautologies.{value_in, is_true_in}
use Rattle.hol_taut_formulas.specs.Forms.{meant}
use Rattle.hol_taut_formulas.specs.AddedAtoms.{AreAdded, IsAtomPut}
use Rattle.hol_taut_formulas.specs.declared.connective.Connective as code
use Rattle.hol_taut_formulas.specs.declared.numbered.Numbered.{Numbered}
use Rattle.hol_taut_formulas.specs.declared.numbered.Part.{Part}
use Rattle.hol_taut_formulas.specs.declared.numbered.Part.TheVariants.{Atom, Constantly, Negated, Connected}
use Rattle.hol_taut_formulas.specs.contracts.numbered.PartPartialEq.TheImpl as part_eq
use Rattle.hol_taut_formulas.specs.NumberedFormulas.{value_at, truth_of_part, truths, truth_at, is_true_at}
use Rattle.hol_taut_formulas.specs.PutParts.{IsMadeOf, AreOrdered, IsPartPut, IsPut, IsFormulaPut, IsNumbered}
use Rattle.hol_taut_formulas.proofs.NewTerms.{with_new_terms-append}
use Rattle.hol_taut_formulas.proofs.AddedAtoms.{added_both}

-- ---- truths

-- what is true before the parts stays so
kept-before : (value : ℕ → Bool) (before : List Bool) (parts : List Part) (known : ℕ) → known < length before → get_or (truths value before parts) known false ≡ get_or before known false
kept-before value before [] known within = refl
kept-before value before (part ∷ parts) known within =
    let longer = length_push before (truth_of_part value before part) in
    kept-before value (before ++ truth_of_part value before part ∷ []) parts known (omega (arith, longer, within))
    ∙ get_or_append_left before (truth_of_part value before part ∷ []) false known within

truths-length : (value : ℕ → Bool) (before : List Bool) (parts : List Part) → length (truths value before parts) ≡ length before + length parts
truths-length value before [] = omega arith
truths-length value before (part ∷ parts) =
    let longer = length_push before (truth_of_part value before part) in
    let rest = truths-length value (before ++ truth_of_part value before part ∷ []) parts in
    omega arith

truths-append : (value : ℕ → Bool) (before : List Bool) (xs ys : List Part) → truths value before (xs ++ ys) ≡ truths value (truths value before xs) ys
truths-append value before [] ys = refl
truths-append value before (x ∷ xs) ys = truths-append value (before ++ truth_of_part value before x ∷ []) xs ys

-- a part asks for no more than the parts that it is made of
made-kept : (value : ℕ → Bool) (before after : List Bool) (n : ℕ) (part : Part) → IsMadeOf n part → ((known : ℕ) → known < n → get_or after known false ≡ get_or before known false)
    → truth_of_part value after part ≡ truth_of_part value before part
made-kept value before after n (Atom place) made same = refl
made-kept value before after n (Constantly b) made same = refl
made-kept value before after n (Negated part) made same = ap not (same part made)
made-kept value before after n (Connected connective left right) made same = ap₂ (λ p q. truth_table (meant connective) p q) (same left made.0) (same right made.1)

-- the truth at a place is that of the part there
at-place : (value : ℕ → Bool) (before : List Bool) (parts : List Part) (place : ℕ) (part : Part) → AreOrdered (length before) parts → slice_get parts place ≡ Some part
    → get_or (truths value before parts) (length before + place) false ≡ truth_of_part value (truths value before parts) part
at-place value before [] place part ordered is = cc
at-place value before (first ∷ parts) zero part ordered is =
    let same : first ≡ part = cc in
    let truth = truth_of_part value before first in
    let longer = length_push before truth in
    kept-before value (before ++ truth ∷ []) parts (length before + 0) (omega (arith, longer))
    ∙ get_or-append-add before (truth ∷ []) 0 false
    ∙ sym (made-kept value before (truths value before (first ∷ parts)) (length before) first ordered.0 (kept-before value before (first ∷ parts)))
    ∙ ap (truth_of_part value (truths value before (first ∷ parts))) same
at-place value before (first ∷ parts) (suc place) part ordered is =
    let truth = truth_of_part value before first in
    let longer = length_push before truth in
    let next : length before + suc place ≡ length (before ++ truth ∷ []) + place = omega (arith, longer) in
    ap (λ n. get_or (truths value (before ++ truth ∷ []) parts) n false) next
    ∙ at-place value (before ++ truth ∷ []) parts place part (subst (λ n. AreOrdered n parts) (sym longer) ordered.1) is

-- ---- a part that is put

from_start : (n : ℕ) → n ≡ 0 + n
from_start n = omega arith

ordered-more : (n : ℕ) (parts : List Part) (part : Part) → AreOrdered n parts → IsMadeOf (n + length parts) part → AreOrdered n (parts ++ part ∷ [])
ordered-more n [] part ordered made = let none : n + 0 ≡ n = omega arith in (subst (λ m. IsMadeOf m part) none made, tt)
ordered-more n (first ∷ parts) part ordered made =
    let next : n + suc (length parts) ≡ n + 1 + length parts = omega arith in
    (ordered.0, ordered-more (n + 1) parts part ordered.1 (subst (λ m. IsMadeOf m part) next made))

module _ (part : Part) (old new : List Part) where
  ordered-new : AreOrdered 0 old → IsMadeOf (length old) part → (new ≡ old) ⊎ (new ≡ old ++ part ∷ []) → AreOrdered 0 new
  ordered-new ordered made (inl same) = subst (λ l. AreOrdered 0 l) (sym same) ordered
  ordered-new ordered made (inr more) = subst (λ l. AreOrdered 0 l) (sym more) (ordered-more 0 old part ordered (subst (λ n. IsMadeOf n part) (from_start (length old)) made))

  longer-new : (new ≡ old) ⊎ (new ≡ old ++ part ∷ []) → length old ≤ length new
  longer-new (inl same) = let l = ap (λ parts. length parts) same in omega arith
  longer-new (inr more) = let l = ap (λ parts. length parts) more in let longer = length_push old part in omega arith

  kept-new : (value : ℕ → Bool) (known : ℕ) → known < length old → (new ≡ old) ⊎ (new ≡ old ++ part ∷ []) → truth_at value new known ≡ truth_at value old known
  kept-new value known within (inl same) = ap (λ l. truth_at value l known) same
  kept-new value known within (inr more) =
      let counted = truths-length value [] old in
      ap (λ l. truth_at value l known) more
      ∙ ap (λ l. get_or l known false) (truths-append value [] old (part ∷ []))
      ∙ kept-before value (truths value [] old) (part ∷ []) known (omega (arith, counted, within))

  put-part : (place : ℕ) (is_true : List Bool → Bool) → IsPartPut part old new place → AreOrdered 0 old → IsMadeOf (length old) part
      → ((row : List Bool) → truth_of_part (value_at row) (truths (value_at row) [] old) part ≡ is_true row) → IsPut is_true old new place
  put-part place is_true put ordered made means = record {
    ordered = ordered-new ordered made put.put;
    longer = longer-new put.put;
    kept = λ value known within. kept-new value known within put.put;
    within = slice_get_within new place part put.there;
    meaning = λ row. ap (λ n. get_or (truths (value_at row) [] new) n false) (from_start place)
        ∙ at-place (value_at row) [] new place part (ordered-new ordered made put.put) put.there
        ∙ made-kept (value_at row) (truths (value_at row) [] old) (truths (value_at row) [] new) (length old) part made
        (λ known within. kept-new (value_at row) known within put.put)
        ∙ means row;
  }

-- one after the other
put-then : (first_true is_true : List Bool → Bool) (old middle new : List Part) (known place : ℕ) → IsPut first_true old middle known → IsPut is_true middle new place → IsPut is_true old new place
put-then first_true is_true old middle new known place first second = record {
  ordered = second.ordered;
  longer = omega (arith, first.longer, second.longer);
  kept = λ value known within. second.kept value known (omega (arith, within, first.longer)) ∙ first.kept value known within;
  within = second.within;
  meaning = second.meaning;
}

-- ---- formulas

module _ (term : NamedTerm) (old_atoms atoms : List NamedTerm) (old new : List Part) where
  as-formula : (p : Proposition) (result : Result ℕ Fault) (part : Part) (last : List Part) → proposition term ≡ p → AreAdded (atom_places p) old_atoms atoms
      → IfOk result (IsPartPut part last new)
      → ((later : List NamedTerm) (place : ℕ) → IsPartPut part last new place → AreOrdered 0 old → IsPut (λ row. is_true_by (value_in (with_new_terms atoms later) row) p) old new place)
      → IfOk result (IsFormulaPut term old_atoms atoms old new)
  as-formula p (Ok place) part last is added put puts = record {
    added = subst (λ (p : Proposition). AreAdded (atom_places p) old_atoms atoms) (sym is) added;
    put = λ later ordered. subst (λ p. IsPut (λ row. is_true_by (value_in (with_new_terms atoms later) row) p) old new place) (sym is) (puts later place put ordered);
  }
  as-formula p (Err fault) part last is added put puts = tt

  pub put-atom : (result : Result ℕ Fault) (number : ℕ) → proposition term ≡ atom term → IsAtomPut term old_atoms atoms number → IfOk result (IsPartPut (Atom number) old new)
      → IfOk result (IsFormulaPut term old_atoms atoms old new)
  put-atom result number is atom_put put =
      as-formula (atom term) result (Atom number) old is atom_put.added put
      (λ later place put ordered. put-part (Atom number) old new place (λ row. value_in (with_new_terms atoms later) row term) put ordered tt (atom_put.found later))

  pub put-constant : (result : Result ℕ Fault) (value : Bool) → proposition term ≡ constantly value → atoms ≡ old_atoms → IfOk result (IsPartPut (Constantly value) old new)
      → IfOk result (IsFormulaPut term old_atoms atoms old new)
  put-constant result value is same put =
      as-formula (constantly value) result (Constantly value) old is (subst (λ (l : List NamedTerm). AreAdded [] old_atoms l) (sym same) (record { all = refl; few = λ few. few })) put
      (λ later place put ordered. put-part (Constantly value) old new place (λ row. value) put ordered tt (λ row. refl))

  pub put-negated : (result : Result ℕ Fault) (inner : NamedTerm) (middle : List Part) (known : ℕ) → proposition term ≡ negated (proposition inner)
      → IsFormulaPut inner old_atoms atoms old middle known → IfOk result (IsPartPut (Negated known) middle new) → IfOk result (IsFormulaPut term old_atoms atoms old new)
  put-negated result inner middle known is inner_put put =
      as-formula (negated (proposition inner)) result (Negated known) middle is inner_put.added put
      (λ later place put ordered.
      let all = with_new_terms atoms later in
      let first = inner_put.put later ordered in
      put-then (is_true_in all inner) (λ row. not (is_true_in all inner row)) old middle new known place first
      (put-part (Negated known) middle new place (λ row. not (is_true_in all inner row)) put first.ordered first.within (λ row. ap not (first.meaning row))))

  pub put-connected : (result : Result ℕ Fault) (connective : code.Connective) (left right : NamedTerm) (middle_atoms : List NamedTerm) (middle last : List Part) (left_at right_at : ℕ)
      → proposition term ≡ connected (meant connective) (proposition left) (proposition right) → IsFormulaPut left old_atoms middle_atoms old middle left_at
      → IsFormulaPut right middle_atoms atoms middle last right_at → IfOk result (IsPartPut (Connected connective left_at right_at) last new)
      → IfOk result (IsFormulaPut term old_atoms atoms old new)
  put-connected result connective left right middle_atoms middle last left_at right_at is left_put right_put put =
      as-formula (connected (meant connective) (proposition left) (proposition right)) result (Connected connective left_at right_at) last is
      (added_both (atom_places (proposition left)) (atom_places (proposition right)) old_atoms middle_atoms atoms left_put.added right_put.added) put (λ later place put ordered.
      let all = with_new_terms atoms later in
      let same : with_new_terms middle_atoms (atom_places (proposition right) ++ later) ≡ all =
      with_new_terms-append (atom_places (proposition right)) middle_atoms later ∙ ap (λ (l : List NamedTerm). with_new_terms l later) (sym right_put.added.all) in
      let first : IsPut (is_true_in all left) old middle left_at =
      subst (λ (l : List NamedTerm). IsPut (is_true_in l left) old middle left_at) same (left_put.put (atom_places (proposition right) ++ later) ordered) in
      let second = right_put.put later first.ordered in
      let is_true : List Bool → Bool = λ row. truth_table (meant connective) (is_true_in all left row) (is_true_in all right row) in
      let whole = put-part (Connected connective left_at right_at) last new place is_true put second.ordered (omega (arith, first.within, second.longer), second.within)
      (λ row. ap₂ (λ p q. truth_table (meant connective) p q) (second.kept (value_at row) left_at first.within ∙ first.meaning row) (second.meaning row)) in
      put-then (is_true_in all left) is_true old middle new left_at place first (put-then (is_true_in all right) is_true middle last new right_at place second whole))

-- a formula whose parts were put where none were
pub as-numbered : (term : NamedTerm) (old atoms : List NamedTerm) (known parts : List Part) (formula : Numbered) → known ≡ [] → formula.parts.keys ≡ parts
    → IsFormulaPut term old atoms known parts formula.whole → IsNumbered term old atoms formula
as-numbered term old atoms known parts formula none is put = record {
  added = put.added;
  meaning = λ row. ap (λ l. truth_at (value_at row) l formula.whole) is ∙ (put.put [] (subst (λ l. AreOrdered 0 l) (sym none) tt)).meaning row;
}

-- ---- a part that is always true

-- it is so at its place, whether or not it stands behind those that it is made of
pub true-at : (value : ℕ → Bool) (before : List Bool) (parts : List Part) (place : ℕ) (part : Part) → slice_get parts place ≡ Some part
    → ((before : List Bool) → truth_of_part value before part ≡ true) → get_or (truths value before parts) (length before + place) false ≡ true
true-at value before [] place part is always = cc
true-at value before (first ∷ parts) zero part is always =
    let same : first ≡ part = cc in
    let truth = truth_of_part value before first in
    let longer = length_push before truth in
    kept-before value (before ++ truth ∷ []) parts (length before + 0) (omega (arith, longer))
    ∙ get_or-append-add before (truth ∷ []) 0 false
    ∙ ap (truth_of_part value before) same
    ∙ always before
true-at value before (first ∷ parts) (suc place) part is always =
    let truth = truth_of_part value before first in
    let longer = length_push before truth in
    let next : length before + suc place ≡ length (before ++ truth ∷ []) + place = omega (arith, longer) in
    ap (λ n. get_or (truths value (before ++ truth ∷ []) parts) n false) next
    ∙ true-at value (before ++ truth ∷ []) parts place part is always

pub part-there : (parts keys : List Part) (place : ℕ) (part : Part) → parts ≡ keys → true ≡ nat_lt place (length parts) → part ≡ get_or parts place part → slice_get keys place ≡ Some part
part-there parts keys place part same within is =
    subst (λ l. slice_get l place ≡ Some part) same (slice_get_read parts (length parts) place part refl (ltb-true place (length parts) (sym within)) is)

pub true-whole : (formula : Numbered) (part : Part) (row : List Bool) → slice_get formula.parts.keys formula.whole ≡ Some part
    → ((value : ℕ → Bool) (before : List Bool) → truth_of_part value before part ≡ true) → is_true_at row formula ≡ true
true-whole formula part row is always =
    ap (λ n. get_or (truths (value_at row) [] formula.parts.keys) n false) (from_start formula.whole) ∙ true-at (value_at row) [] formula.parts.keys formula.whole part is (always (value_at row))

-- ---- a part among parts

same-parts : (a b : Part) → part_eq.ghosts.eq a b ≡ true → a ≡ b
same-parts a b same = search rules

pub part-put : (part : Part) (old new : List Part) (place : ℕ) → new ≡ insert_key part_eq.ghosts.eq old part
    → (k : Part) × (slice_get new place ≡ Some k) × (part_eq.ghosts.eq part k ≡ true) → IsPartPut part old new place
part-put part old new place inserted stored = record {
  put = go (list_any (part_eq.ghosts.eq part) old) inserted;
  there = stored.1 ∙ ap (λ p. Some p) (sym (same-parts part stored.0 stored.2));
}
  where
    go : (test : Bool) → new ≡ (if test then old else (old ++ part ∷ [])) → (new ≡ old) ⊎ (new ≡ old ++ part ∷ [])
    go true is = inl is
    go false is = inr is
