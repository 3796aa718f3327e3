-- The binders round a place, as code holds them.
use Rattle.std.specs.Prelude.{List, [], ◌∷◌}
use Rattle.hol_model.specs.Terms.NamedTerm.{Binder}
use Rattle.hol_check_review.specs.declared.terms.Binders.{Binders, Outermost, Under'}

-- the innermost first
abbrev pub binders_of : Binders → List Binder
binders_of Outermost = []
binders_of (Under' name ty p outer) = (name.now, ty.now) ∷ binders_of outer
