-- Entries at places of a list that grows.
use Rattle.std.proofs.Common.{◌≡◌, ℕ, zero, suc, List, [], ◌∷◌, ◌++◌, length, refl, Some}
use Rattle.std.specs.Prelude.{slice_get}

-- what stands at a place stands there in a list that goes on
pub get_earlier : {X : Type 0} (xs more : List X) (n : ℕ) (x : X) → slice_get xs n ≡ Some x → slice_get (xs ++ more) n ≡ Some x
get_earlier [] more n x is = cc
get_earlier (y ∷ xs) more zero x is = is
get_earlier (y ∷ xs) more (suc n) x is = get_earlier xs more n x is

pub get_at_end : {X : Type 0} (xs : List X) (x : X) → slice_get (xs ++ x ∷ []) (length xs) ≡ Some x
get_at_end [] x = refl
get_at_end (y ∷ xs) x = get_at_end xs x
