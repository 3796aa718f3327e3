-- The binders around a part of the pattern and a part of the term, and those passed inside a part of the term.
use Rattle.std.specs.Prelude.{ℕ, suc, List, [], ◌∷◌}
use Rattle.hol_model.specs.Terms.NamedTerm.{Binder}
use Rattle.hol_match.specs.Walk.{Sides, right_of}
use Rattle.hol_alpha.specs.declared.frames.Frames.{Frames, Outermost, Under'}
use Rattle.hol_match.specs.declared.inside.Inside.{Inside, Around, Passed'}

abbrev pub sides_of : Frames → Sides
sides_of Outermost = []
sides_of (Under' left right p outer) = ((left.name.now, left.ty.now), (right.name.now, right.ty.now)) ∷ sides_of outer

abbrev pub binders_of : Inside → List Binder
binders_of (Around frames) = right_of (sides_of frames.now)
binders_of (Passed' name ty p outer) = (name.now, ty.now) ∷ binders_of outer

-- how many binders were passed
abbrev pub passed_of : Inside → ℕ
passed_of (Around frames) = 0
passed_of (Passed' name ty p outer) = suc (passed_of outer)
