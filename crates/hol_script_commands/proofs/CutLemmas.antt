-- Where a text is cut.
use Rattle.std.proofs.Common.{◌≡◌, ℕ, zero, suc, ◌+◌, ◌-◌, ◌<◌, ◌≤◌, List, [], ◌∷◌, ◌++◌, length, get_or, take, drop, refl, sym, ap}
use Rattle.std.proofs.Common.{subst, ◌∙◌, arith, Bool, true, false, ◌==◌, ◌&&◌, ◌||◌, eqb-true, eq-eqb, nat_lt}
use borrow.Author.Tests.{ltb-true, ltb-false}
use Rattle.std.proofs.lemmas.List.{take_all, length-drop, get_or_past}
use Rattle.hol_model_sessions.specs.Script.{begins_mark, has_mark, IsCut}
use Rattle.hol_model.proofs.Tests.{first_of_both, second_of_both}

-- `;;` stands at a place
abbrev pub is_marked : List ℕ → ℕ → Bool
is_marked bytes at = (get_or bytes at 0 == 59) && (get_or bytes (suc at) 0 == 59)

neither : (p q : Bool) → p ≡ false → q ≡ false → (p || q) ≡ false
neither p q first second = rw (first, second) refl

pub no_mark : (bytes : List ℕ) → ((at : ℕ) → is_marked bytes at ≡ false) → has_mark bytes ≡ false
no_mark [] none = refl
no_mark (a ∷ []) none = refl
no_mark (a ∷ b ∷ rest) none =
    neither (begins_mark (a ∷ b ∷ rest)) (has_mark (b ∷ rest)) (none 0) (no_mark (b ∷ rest) (λ at. none (suc at)))

-- a byte and the first of what follows up to a mark are no mark, where the byte and the first of all that follows are none
begins_none : (a : ℕ) (bytes : List ℕ) (at : ℕ) → is_marked (a ∷ bytes) 0 ≡ false → is_marked bytes at ≡ true → begins_mark (a ∷ (take at bytes ++ 59 ∷ [])) ≡ false
begins_none a [] zero none here = cc
begins_none a [] (suc at) none here = cc
begins_none a (b ∷ bytes) zero none here =
    let same : b ≡ 59 = eqb-true b 59 (first_of_both (b == 59) (get_or bytes 0 0 == 59) here) in
    rw same at none
begins_none a (b ∷ bytes) (suc at) none here = none

pub is_cut : (bytes : List ℕ) (at : ℕ) → ((before : ℕ) → before < at → is_marked bytes before ≡ false) → is_marked bytes at ≡ true
    → IsCut bytes (take at bytes) (drop (suc (suc at)) bytes)
is_cut [] zero none here = cc
is_cut [] (suc at) none here = cc
is_cut (a ∷ []) zero none here = absurd (never (first_of_both (a == 59) false here) (second_of_both (a == 59) false here))
  where
    never : (a == 59) ≡ true → false ≡ true → ⊥
    never p q = cc
is_cut (a ∷ b ∷ rest) zero none here =
    let first : a ≡ 59 = eqb-true a 59 (first_of_both (a == 59) (b == 59) here) in
    let second : b ≡ 59 = eqb-true b 59 (second_of_both (a == 59) (b == 59) here) in
    record { whole = λ i. first i ∷ second i ∷ rest; first = refl }
is_cut (a ∷ bytes) (suc at) none here =
    let deeper : IsCut bytes (take at bytes) (drop (suc (suc at)) bytes) = is_cut bytes at (λ before less. none (suc before) (omega (arith, less))) here in
    record {
      whole = ap (λ rest. a ∷ rest) deeper.whole;
      first = neither (begins_mark (a ∷ (take at bytes ++ 59 ∷ []))) (has_mark (take at bytes ++ 59 ∷ [])) (begins_none a bytes at (none 0 (omega arith)) here) deeper.first;
    }

both : (p q : Bool) → p ≡ true → q ≡ true → (p && q) ≡ true
both p q first second = rw (first, second) refl

-- the same for the parts as slices of the text
pub is_cut_at : (bytes : List ℕ) (at : ℕ) → ((before : ℕ) → before < at → is_marked bytes before ≡ false) → get_or bytes at 0 ≡ 59 → get_or bytes (at + 1) 0 ≡ 59
    → IsCut bytes (take at bytes) (take (length bytes - (at + 2)) (drop (at + 2) bytes))
is_cut_at bytes at none first second =
    let one : at + 1 ≡ suc at = omega arith in
    let two : at + 2 ≡ suc (suc at) = omega arith in
    let more : get_or bytes (suc at) 0 ≡ 59 = subst (λ (n : ℕ). get_or bytes n 0 ≡ 59) one second in
    let cut = is_cut bytes at none (both (get_or bytes at 0 == 59) (get_or bytes (suc at) 0 == 59) (eq-eqb (get_or bytes at 0) 59 first) (eq-eqb (get_or bytes (suc at) 0) 59 more)) in
    let whole : take (length bytes - (at + 2)) (drop (at + 2) bytes) ≡ drop (at + 2) bytes =
    take_all (length bytes - (at + 2)) (drop (at + 2) bytes) (omega (arith, length-drop (at + 2) bytes)) in
    subst (IsCut bytes (take at bytes)) (sym (whole ∙ ap (λ (n : ℕ). drop n bytes) two)) cut

-- no `;;` begins in a text of which all places but the last were looked at
pub no_mark_up_to : (bytes : List ℕ) (at : ℕ) → ((before : ℕ) → before < at → is_marked bytes before ≡ false) → length bytes ≤ at + 1 → has_mark bytes ≡ false
no_mark_up_to bytes at none within = no_mark bytes (λ place. here place (nat_lt place at) refl)
  where
    past : (place : ℕ) → at ≤ place → is_marked bytes place ≡ false
    past place behind =
        let end : get_or bytes (suc place) 0 ≡ 0 = get_or_past bytes (suc place) 0 (omega (arith, within)) in
        second_false (get_or bytes place 0 == 59) (get_or bytes (suc place) 0 == 59) (ap (λ (n : ℕ). n == 59) end)
      where
        second_false : (p q : Bool) → q ≡ false → (p && q) ≡ false
        second_false true q failed = failed
        second_false false q failed = refl

    here : (place : ℕ) (test : Bool) → nat_lt place at ≡ test → is_marked bytes place ≡ false
    here place true is = none place (ltb-true place at is)
    here place false is = past place (ltb-false place at is)
