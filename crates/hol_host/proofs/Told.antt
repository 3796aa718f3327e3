-- What an answer tells.
use Rattle.std.proofs.Common.{◌≡◌, refl, Option, Some, None, IfSome}

pub told : {A : Type 0} (found : Option A) {P : A → Type 0} → ((x : A) → found ≡ Some x → P x) → IfSome found P
told (Some x) each = each x refl
told None each = tt
