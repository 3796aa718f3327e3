-- The theorems that are stored stay as the journal grows.
use Rattle.std.proofs.Common.{◌≡◌, ◌<◌, ℕ, List, length, sym, ◌∙◌, ap, subst, Some}
use Rattle.std.proofs.lemmas.List.{length-map}
use Rattle.std.proofs.lemmas.Option.{slice_get-map}
use Rattle.std.specs.Prelude.{slice_get}
use Rattle.std.specs.Option.{option_map}
use Rattle.hol_model.specs.Kernel.Theorem.{Theorem}
use Rattle.hol_journal.specs.Journal.{Recorded}
use Rattle.hol_journal.proofs.GrowthLemmas.{journals-grow}
use Rattle.hol_prelude_derivations.specs.Derivations.{theorems}
use Rattle.hol_prelude.specs.Prelude.{prelude_theorems}
use Rattle.hol_prelude.specs.HasLogic.{LogicStays}

pub logic-stays : LogicStays
logic-stays old new logic grown has = record {
  theorems_are = has.theorems_are;
  made = record { each = λ number made there. journals-grow.stays old new made grown (has.made.each number made there) };
}

pub stored-within : (all : List Recorded) (number : ℕ) → theorems all ≡ prelude_theorems → number < length prelude_theorems → number < length all
stored-within all number are within = let same : length all ≡ length prelude_theorems = sym (length-map all (λ made. made.theorem)) ∙ ap length are in subst (λ n. number < n) (sym same) within

pub stored-is : (all : List Recorded) (number : ℕ) (made : Recorded) → theorems all ≡ prelude_theorems → slice_get all number ≡ Some made → slice_get prelude_theorems number ≡ Some made.theorem
stored-is all number made are there =
    ap (λ (l : List Theorem). slice_get l number) (sym are) ∙ slice_get-map (λ made. made.theorem) all number ∙ ap (option_map (λ (m : Recorded). m.theorem)) there
