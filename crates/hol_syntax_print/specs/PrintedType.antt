-- Where a type stands in the type round it.
use Rattle.std.specs.Prelude.{Bool, true, false}
use Rattle.hol_model.specs.Texts.TypeGrammar.{TypeTree}
use Rattle.hol_model.specs.Texts.Printing.{as_atom}

-- on the left of an arrow, or elsewhere
abbrev pub placed : Bool → TypeTree → TypeTree
placed true tree = as_atom tree
placed false tree = tree
