use Rattle.std.proofs.Common.{map, drop, Result}
use Rattle.hol_model.specs.declared.fault.Fault.{Fault}
use Rattle.hol_model.specs.Refining.Combinators as combinators
use Rattle.hol_syntax.specs.Scope.{scope_of}
use Rattle.hol_tactic_grammar.specs.Expressions.{expression_here, joint_here, all_expressions, all_links}
use Rattle.hol_tactic_grammar.specs.Reading.{AreRead, AreLinksRead}
use Rattle.hol_tactic_grammar.proofs.Parts.{AreReadSoFar, AreLinksReadSoFar}
use Rattle.hol_tactic_grammar.proofs.expressions.«+reading».Given as goal

abbrev pub invariant-read_each-loop-tac : goal.invariant-read_each-loop-tac
invariant-read_each-loop-tac l =
    (outcome : Result combinators.Tactics Fault) → AreRead (scope_of l.scope) (all_expressions (map expression_here l.tacs)) outcome
    → AreReadSoFar (scope_of l.scope) (drop l.tac-index l.tacs) l.each.items outcome

abbrev pub invariant-read_links-loop-link : goal.invariant-read_links-loop-link
invariant-read_links-loop-link l =
    (outcome : Result combinators.Links Fault) → AreLinksRead (scope_of l.scope) (all_links (map joint_here l.links)) outcome
    → AreLinksReadSoFar (scope_of l.scope) (drop l.link-index l.links) l.each.items outcome
