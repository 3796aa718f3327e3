-- Lines that are written one after another.
use Rattle.std.proofs.Common.{◌≡◌, ◌<◌, ◌+◌, ℕ, List, [], ◌∷◌, ◌++◌, Option, take, drop, length, refl, sym, ap, ◌∙◌, subst, append_assoc, append-nil, take-append-drop}
use Rattle.std.specs.List.{slice_index_or}
use Rattle.std.proofs.lemmas.List.{take_more, drop_more}
use Rattle.std.specs.Io.KnownBytes.{Appends}
use Rattle.std.proofs.KnownBytes.{Appends-nil, Appends-trans}
use Rattle.hol_device_io.specs.Bytes.{AppendsFront}
use Rattle.hol_check.specs.Report.{lines_of}

lines_append : {A : Type 0} → (line : A → List ℕ) (first second : List A) → lines_of line (first ++ second) ≡ lines_of line first ++ lines_of line second
lines_append line [] second = refl
lines_append line (x ∷ first) second = ap (λ l. line x ++ l) (lines_append line first second) ∙ sym (append_assoc (line x) (lines_of line first) (lines_of line second))

-- one more line was written
pub line_written : {A : Type 0} → (line : A → List ℕ) (a b c : Option (List ℕ)) (items : List A) (at : ℕ) (default : A) → at < length items → Appends a b (lines_of line (take at items))
    → Appends b c (line (slice_index_or items at default)) → Appends a c (lines_of line (take (at + 1) items))
line_written line a b c items at default there before after =
    let item = slice_index_or items at default in
    subst (Appends a c)
    (sym (ap (lines_of line) (take_more items at default there) ∙ lines_append line (take at items) (item ∷ []) ∙ ap (λ l. lines_of line (take at items) ++ l) (append-nil (line item))))
    (Appends-trans a b c (lines_of line (take at items)) (line item) before after)

-- nothing was written
pub nothing_written : (a : Option (List ℕ)) (piece : List ℕ) → AppendsFront a a piece
nothing_written a piece = record { front = []; rest = piece; whole = refl; taken = Appends-nil a }

-- behind whole lines the front of one more was written
pub line_broken : {A : Type 0} → (line : A → List ℕ) (a b c : Option (List ℕ)) (items : List A) (at : ℕ) (default : A) → at < length items → Appends a b (lines_of line (take at items))
    → AppendsFront b c (line (slice_index_or items at default)) → AppendsFront a c (lines_of line items)
line_broken line a b c items at default there before after =
    let item = slice_index_or items at default in
    let behind = lines_of line (drop (at + 1) items) in
    let written = lines_of line (take at items) in
    let parts = sym (take-append-drop at items) ∙ ap (λ l. take at items ++ l) (drop_more items at default there) in
    record {
      front = written ++ after.front;
      rest = after.rest ++ behind;
      whole = ap (lines_of line) parts ∙ lines_append line (take at items) (item ∷ drop (at + 1) items) ∙ ap (λ l. written ++ (l ++ behind)) after.whole
          ∙ ap (λ l. written ++ l) (append_assoc after.front after.rest behind) ∙ sym (append_assoc written after.front (after.rest ++ behind));
      taken = Appends-trans a b c written after.front before after.taken;
    }
