-- What is read where a device tells what it has.
use Rattle.std.specs.Prelude.{◌≡◌, ℕ, List, Option, IfSome}

-- the bytes are those that the device tells, where it tells any
abbrev pub Tells : Option (List ℕ) → List ℕ → Type 0
Tells known bytes = IfSome known (λ told. told ≡ bytes)
