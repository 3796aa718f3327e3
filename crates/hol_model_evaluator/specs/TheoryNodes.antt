-- How many nodes the bodies of definitions have.
use Rattle.std.specs.Prelude.{ℕ, ◌+◌, [], ◌∷◌}
use Rattle.hol_model.specs.Terms.Measures.{nameless_nodes}
use Rattle.hol_model.specs.Logic.Theory.{Theory, definition, declaration_of_type, declaration_of_constant}

abbrev pub theory_nodes : Theory → ℕ
theory_nodes [] = 0
theory_nodes (definition name ty body ∷ rest) = nameless_nodes body + theory_nodes rest + 1
theory_nodes (declaration_of_type name ∷ rest) = theory_nodes rest + 1
theory_nodes (declaration_of_constant name ty ∷ rest) = theory_nodes rest + 1
