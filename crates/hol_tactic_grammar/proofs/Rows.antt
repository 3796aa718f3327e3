-- The rows of parts of an expression, as lists.
use Rattle.std.proofs.Common.{rules, ◌≡◌, map, refl, ap}
use Rattle.hol_tactic_grammar.specs.Expressions.{Kept, chain, orelse, more, link, on_each, expression_here, expressions_in, joint_here, links_in, all_expressions, all_links}
use Rattle.hol_tactic_exprs.specs.declared.tac.Tac.{Tac, Row_of-Tac, end_of-Tac, more_of-Tac, Row_of-Link, end_of-Link, more_of-Link, items-the_row-Tac, items-the_row-Link}
use Rattle.hol_tactic_exprs.specs.declared.tac.Tac as tac
use Rattle.hol_tactic_exprs.specs.declared.tac.Link as links

pub expressions_in_row : (n : _) (row : Row_of-Tac Kept n) → expressions_in row ≡ all_expressions (map expression_here (items-the_row-Tac Kept n row))
expressions_in_row _ end_of-Tac = refl
expressions_in_row _ (more_of-Tac {n} t others) = ap (more (expression_here t)) (expressions_in_row n others)

pub links_in_row : (n : _) (row : Row_of-Link Kept n) → links_in row ≡ all_links (map joint_here (items-the_row-Link Kept n row))
links_in_row _ end_of-Link = refl
links_in_row _ (more_of-Link {n} l others) = ap (link (joint_here l)) (links_in_row n others)

pub chain_means : (first : _) (links : _) → expression_here (tac.Chain first links) ≡ chain (expression_here first.value) (all_links (map joint_here links.items))
chain_means first links = search (rules, tac.the_lemmas, links_in_row)

pub orelse_means : (first : _) (others : _) → expression_here (tac.OrElse first others) ≡ orelse (expression_here first.value) (all_expressions (map expression_here others.items))
orelse_means first others = search (rules, tac.the_lemmas, expressions_in_row)

pub thenl_means : (each : _) → joint_here (links.Thenl each) ≡ on_each (all_expressions (map expression_here each.items))
thenl_means each = search (rules, tac.the_lemmas, expressions_in_row)
