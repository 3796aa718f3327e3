-- Bound variables whose binders stand around a term.
use Rattle.std.specs.Prelude.{ℕ, ◌+◌, ◌-◌, max}
use Rattle.hol_model.specs.Terms.Nameless.{Nameless, free, const, bound, app, lam}

-- the number of binders that the bound variables of the term need around it
abbrev pub binders_needed : Nameless → ℕ
binders_needed (free name ty) = 0
binders_needed (const name ty) = 0
binders_needed (bound index) = index + 1
binders_needed (app function argument) = max (binders_needed function) (binders_needed argument)
binders_needed (lam ty body) = binders_needed body - 1
