-- The sum of a name with a prime more.
use Rattle.std.proofs.Common.{◌≡◌, ◌∙◌, ap, sym, ℕ, List, [], ◌∷◌, ◌++◌}
use Rattle.std.proofs.lemmas.List.Sums.{fold-append}
use Rattle.hol_refine.specs.Sums.{longer_sum, name_sum, primed_sum}

pub primed_name_sum : (name next : List ℕ) (old new : ℕ) → next ≡ name ++ 39 ∷ [] → old ≡ name_sum name → new ≡ primed_sum old → new ≡ name_sum next
primed_name_sum name next old new is known made = made ∙ ap primed_sum known ∙ sym (ap name_sum is ∙ fold-append longer_sum 0 name (39 ∷ []))
