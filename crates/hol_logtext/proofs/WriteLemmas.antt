-- Texts that are written one after another.
use Rattle.std.proofs.Common.{◌≡◌, ℕ, ◌<◌, ◌+◌, List, [], ◌∷◌, ◌++◌, length, drop, get_or, sym, ◌∙◌, ap, append_assoc, append-nil}
use Rattle.std.specs.Prelude.{decimal, map}
use Rattle.std.proofs.lemmas.List.{drop_more}
use Rattle.hol_logtext.specs.Fields.{spaced}
use Rattle.hol_logtext.specs.LineText.{pair_fields}
use Rattle.hol_logtext.specs.Writing.{Appends, Begins}

pub begins-more : {a b c : List ℕ} → Begins a b → Begins b c → Begins a c
begins-more {a} first second = record { more = first.more ++ second.more; is_more = second.is_more ∙ ap (λ l. l ++ second.more) first.is_more ∙ append_assoc a first.more second.more }

pub appends-begins : {a b : List ℕ} {w : List ℕ → List ℕ} → Appends a b w → Begins a b
appends-begins {a} {b} {w} written = record { more = w []; is_more = sym (append-nil b) ∙ written.appended [] }

-- lists of numbers, one after another

-- what was written of a list of fields, where these are left
pub record IsLeft (old out : List ℕ) (all left : List (List ℕ)) : Type 0 where
  pub left_over : (rest : List ℕ) → out ++ spaced left rest ≡ old ++ spaced all rest
  pub begun : Begins old out

pub left-one : {old out new : List ℕ} {all : List (List ℕ)} (left more : List (List ℕ)) (field : List ℕ) → left ≡ field ∷ more → IsLeft old out all left
    → Appends out new (spaced (field ∷ [])) → IsLeft old new all more
left-one {out} left more field here is written = record {
  left_over = λ rest. written.appended (spaced more rest) ∙ (ap (λ l. out ++ spaced l rest) (sym here) ∙ is.left_over rest);
  begun = begins-more is.begun (appends-begins written);
}

pub left-two : {old out new : List ℕ} {all : List (List ℕ)} (left more : List (List ℕ)) (first second : List ℕ) → left ≡ first ∷ second ∷ more → IsLeft old out all left
    → Appends out new (spaced (first ∷ second ∷ [])) → IsLeft old new all more
left-two {out} left more first second here is written = record {
  left_over = λ rest. written.appended (spaced more rest) ∙ (ap (λ l. out ++ spaced l rest) (sym here) ∙ is.left_over rest);
  begun = begins-more is.begun (appends-begins written);
}

pub number_left : (numbers : List ℕ) (at d : ℕ) → at < length numbers → map decimal (drop at numbers) ≡ decimal (get_or numbers at d) ∷ map decimal (drop (at + 1) numbers)
number_left numbers at d there = ap (map decimal) (drop_more numbers at d there)

pub pair_left : (pairs : List (ℕ × ℕ)) (at : ℕ) (d : ℕ × ℕ) → at < length pairs
    → pair_fields (drop at pairs) ≡ decimal (get_or pairs at d).0 ∷ decimal (get_or pairs at d).1 ∷ pair_fields (drop (at + 1) pairs)
pair_left pairs at d there = ap pair_fields (drop_more pairs at d there)
