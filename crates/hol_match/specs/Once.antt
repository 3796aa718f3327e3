-- Lists in which nothing stands twice.
use Rattle.std.specs.Prelude.{List, [], ◌∷◌}
use Rattle.hol_model.specs.Logic.Derivable.{IsMember}

abbrev pub IsOnce : {A : Type 0} → List A → Type 0
IsOnce [] = Unit {0}
IsOnce (x ∷ xs) = (IsMember x xs → ⊥) × IsOnce xs
