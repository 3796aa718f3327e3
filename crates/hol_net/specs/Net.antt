-- A net of patterns: the patterns, and a tree that leads to each.
use Rattle.std.specs.Prelude.{List}
use Rattle.std.specs.Coded.{Coded, coded_list}
use Rattle.hol_model.specs.Terms.NamedTerm.{NamedTerm}
use Rattle.hol_model.specs.Terms.NamedTermCode.{term_code}
use Rattle.hol_net.specs.declared.tree.Tree.{Tree}
use Rattle.hol_net.specs.Tree.{IsTree, Holds}

abbrev pub patterns_code : Coded (List NamedTerm)
patterns_code = coded_list term_code

pub record IsNet (tree : Tree) (patterns : List NamedTerm) : Type 0 where
  pub is_tree : IsTree tree
  pub holds : Holds tree patterns
