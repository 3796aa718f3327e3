-- The fields of a text.
use Rattle.std.proofs.Common.{◌≡◌, ℕ, List, [], ◌∷◌, ◌++◌, false, ◌==◌, refl, sym, ◌∙◌, ap, append_assoc, Bor}
use Rattle.std.proofs.lemmas.List.{map-append}
use Rattle.hol_model.proofs.Tests.{first_of_neither, second_of_neither}
use Rattle.hol_logtext.specs.Fields.{space, split_fields, has_space, IsCut}
use Rattle.hol_logtext.specs.Lines.{fields_in}

pub split_behind : (field rest : List ℕ) → has_space field ≡ false → split_fields (field ++ space ∷ rest) ≡ field ∷ split_fields rest
split_behind [] rest none = refl
split_behind (byte ∷ field) rest none =
    let other : (byte == space) ≡ false = first_of_neither (byte == space) (has_space field) none in
    let deeper : split_fields (field ++ space ∷ rest) ≡ field ∷ split_fields rest = split_behind field rest (second_of_neither (byte == space) (has_space field) none) in
    rw (other, deeper) refl

-- the fields of a text are the one before its first space and those behind it
pub split_cut : (text field rest : List ℕ) → IsCut text field rest → split_fields text ≡ field ∷ split_fields rest
split_cut text field rest cut = ap split_fields cut.whole ∙ split_behind field rest cut.first

-- a text with no space is its only field
pub split_one : (text : List ℕ) → has_space text ≡ false → split_fields text ≡ text ∷ []
split_one [] none = refl
split_one (byte ∷ text) none =
    let other : (byte == space) ≡ false = first_of_neither (byte == space) (has_space text) none in
    let deeper : split_fields text ≡ text ∷ [] = split_one text (second_of_neither (byte == space) (has_space text) none) in
    rw (other, deeper) refl

-- the fields found so far and those of what is left
pub split_more : (fields : List (Bor (List ℕ))) (field : Bor (List ℕ)) (text left rest : List ℕ)
    → fields_in fields ++ split_fields left ≡ split_fields text → IsCut left field.now rest
    → fields_in (fields ++ field ∷ []) ++ split_fields rest ≡ split_fields text
split_more fields field text left rest so_far cut =
    ap (λ front. front ++ split_fields rest) (map-append (λ (f : Bor (List ℕ)). f.now) fields (field ∷ []))
    ∙ append_assoc (fields_in fields) (field.now ∷ []) (split_fields rest)
    ∙ ap (λ more. fields_in fields ++ more) (sym (split_cut left field.now rest cut)) ∙ so_far

pub split_all : (fields : List (Bor (List ℕ))) (last : Bor (List ℕ)) (text : List ℕ)
    → fields_in fields ++ split_fields last.now ≡ split_fields text → has_space last.now ≡ false → fields_in (fields ++ last ∷ []) ≡ split_fields text
split_all fields last text so_far none =
    map-append (λ (f : Bor (List ℕ)). f.now) fields (last ∷ []) ∙ ap (λ more. fields_in fields ++ more) (sym (split_one last.now none)) ∙ so_far
