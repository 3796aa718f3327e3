-- Variables and constants, as the leaves of terms.
use Rattle.std.specs.Prelude.{ℕ, List, Bool}
use Rattle.hol_model.specs.Terms.HolType.{HolType}
use Rattle.hol_model.specs.Terms.Name.{is_identifier, is_constant_name}
use Rattle.hol_model.specs.Terms.NamedTerm as terms
use Rattle.hol_model.specs.Terms.NamedTerm.{NamedTerm}
use Rattle.hol_subst.specs.declared.made_leaves.Leaf.{Leaf}
use Rattle.hol_subst.specs.declared.made_leaves.Leaf.TheVariants.{Variable, Constant}

-- the leaf of a name and a type
abbrev pub leaf_of : Leaf → List ℕ → HolType → NamedTerm
leaf_of Variable = terms.variable
leaf_of Constant = terms.constant

-- whether a leaf may have the name
abbrev pub may_be_named : Leaf → List ℕ → Bool
may_be_named Variable = is_identifier
may_be_named Constant = is_constant_name
