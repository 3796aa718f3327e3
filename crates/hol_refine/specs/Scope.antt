-- The binders that a part of a term stands under, the innermost first.
use Rattle.std.specs.Prelude.{List, [], ◌∷◌}
use Rattle.hol_model.specs.Terms.NamedTerm.{Binder}
use Rattle.hol_refine.specs.declared.names.Scope.{Scope, Outermost, Under'}

abbrev pub binders_of : Scope → List Binder
binders_of Outermost = []
binders_of (Under' name ty p outer) = (name.now, ty.now) ∷ binders_of outer
