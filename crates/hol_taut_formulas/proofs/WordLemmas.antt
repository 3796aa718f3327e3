-- The words of parts, one after the other.
use Rattle.std.proofs.Common.{◌≡◌, ℕ, ◌<◌, ◌+◌, List, [], ◌∷◌, ◌++◌, length, Bool, map, drop, get_or, sym, ◌∙◌, ap}
use Rattle.std.proofs.lemmas.List.{map-append, drop_more}
use Rattle.hol_taut_formulas.specs.declared.numbered.Part.{Part}
use Rattle.hol_taut_formulas.specs.NumberedFormulas.{truth_of_part, truths}
use Rattle.hol_taut_formulas.specs.Words.{is_set}

-- the word of the next part
pub one-more : (value : ℕ → Bool) (row : ℕ) (parts : List Part) (index : ℕ) (d : Part) (words known new : List ℕ) (word : ℕ) → index < length parts
    → known ≡ words → new ≡ words ++ word ∷ [] → is_set row word ≡ truth_of_part value (map (is_set row) known) (get_or parts index d)
    → truths value (map (is_set row) words) (drop index parts) ≡ truths value [] parts → truths value (map (is_set row) new) (drop (index + 1) parts) ≡ truths value [] parts
one-more value row parts index d words known new word within same pushed means reached =
    ap (λ l. truths value (map (is_set row) l) (drop (index + 1) parts)) pushed
    ∙ ap (λ l. truths value l (drop (index + 1) parts)) (map-append (is_set row) words (word ∷ []))
    ∙ ap (λ t. truths value (map (is_set row) words ++ t ∷ []) (drop (index + 1) parts)) (means ∙ ap (λ l. truth_of_part value (map (is_set row) l) (get_or parts index d)) same)
    ∙ ap (λ l. truths value (map (is_set row) words) l) (sym (drop_more parts index d within))
    ∙ reached
