-- The steps that may still be spent.
use Rattle.std.specs.Prelude.{ℕ}

pub record Steps : Type 0 where
  pub left : ℕ
