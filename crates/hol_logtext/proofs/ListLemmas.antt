-- Lists of numbers that fields are, read from left to right.
use Rattle.std.proofs.Common.{◌≡◌, ℕ, ◌+◌, ◌<◌, ◌≤◌, List, [], ◌∷◌, ◌++◌, length, drop, get_or, Option, Some, None, Bor, refl, sym, ◌∙◌, ap, append_assoc, arith}
use Rattle.std.proofs.lemmas.List.{drop_more, drop_all}
use Rattle.std.specs.Option.{option_map}
use Rattle.hol_logtext.specs.LineReading.{before_all, both_numbers, pairs_of}
use Rattle.hol_logtext.specs.Lines.{fields_in}

-- what is left to be read behind what was read
abbrev pub behind_all : {A : Type 0} → List A → Option (List A) → Option (List A)
behind_all front rest = option_map (λ more. front ++ more) rest

-- one more was read
pub behind_one : {A : Type 0} (front : List A) (x : A) (rest : Option (List A)) → behind_all (front ++ x ∷ []) rest ≡ behind_all front (before_all (Some x) rest)
behind_one front x None = refl
behind_one front x (Some more) = ap Some (append_assoc front (x ∷ []) more)

-- the first pair of what is left
pub pairs_at : (fields : List (Bor (List ℕ))) (at : ℕ) (d : Bor (List ℕ)) → at + 1 < length fields
    → pairs_of (fields_in (drop at fields)) ≡ before_all (both_numbers (get_or fields at d).now (get_or fields (at + 1) d).now) (pairs_of (fields_in (drop (at + 2) fields)))
pairs_at fields at d there =
    let first = drop_more fields at d (omega (arith, there)) in
    let second = drop_more fields (at + 1) d there in
    let two : at + 1 + 1 ≡ at + 2 = omega arith in
    ap (λ rest. pairs_of (fields_in rest)) first ∙ ap (λ rest. pairs_of (fields_in (get_or fields at d ∷ rest))) second
    ∙ ap (λ n. pairs_of (fields_in (get_or fields at d ∷ get_or fields (at + 1) d ∷ drop n fields))) two

pub pair_read : (front : List (ℕ × ℕ)) (pair : ℕ × ℕ) (fields : List (Bor (List ℕ))) (at : ℕ) (d : Bor (List ℕ)) → at + 1 < length fields
    → behind_all front (pairs_of (fields_in (drop at fields))) ≡ pairs_of (fields_in fields)
    → Some pair ≡ both_numbers (get_or fields at d).now (get_or fields (at + 1) d).now
    → behind_all (front ++ pair ∷ []) (pairs_of (fields_in (drop (at + 2) fields))) ≡ pairs_of (fields_in fields)
pair_read front pair fields at d there so_far read =
    behind_one front pair (pairs_of (fields_in (drop (at + 2) fields)))
    ∙ ap (λ found. behind_all front (before_all found (pairs_of (fields_in (drop (at + 2) fields))))) read
    ∙ ap (λ rest. behind_all front rest) (sym (pairs_at fields at d there)) ∙ so_far

-- one field is no pair
pub pair_cut : (front : List (ℕ × ℕ)) (fields : List (Bor (List ℕ))) (at : ℕ) (d : Bor (List ℕ)) → at < length fields → length fields ≤ at + 1
    → behind_all front (pairs_of (fields_in (drop at fields))) ≡ pairs_of (fields_in fields) → None ≡ pairs_of (fields_in fields)
pair_cut front fields at d there last so_far =
    let first = drop_more fields at d there in
    let none = drop_all (at + 1) fields last in
    let one : pairs_of (fields_in (drop at fields)) ≡ None = ap (λ rest. pairs_of (fields_in rest)) first ∙ ap (λ rest. pairs_of (fields_in (get_or fields at d ∷ rest))) none in
    sym (ap (λ rest. behind_all front rest) one) ∙ so_far
