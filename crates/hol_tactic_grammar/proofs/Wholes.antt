-- Expressions of several parts: what is read of the parts.
use Rattle.std.proofs.Common.{◌≡◌, List, map, Box, Vec, Global, Result, sym, ap, ◌∙◌, subst}
use Rattle.hol_model.specs.declared.fault.Fault.{Fault}
use Rattle.hol_model.specs.Texts.Reading.{Scope}
use Rattle.hol_model.specs.Refining.Combinators as combinators
use Rattle.hol_tactic_exprs.specs.declared.tac.Tac as tac
use Rattle.hol_tactic_exprs.specs.declared.tac.Tac.{Tac}
use Rattle.hol_tactic_exprs.specs.declared.tac.Link as links
use Rattle.hol_tactic_exprs.specs.declared.tac.Link.{Link}
use Rattle.hol_tactic_grammar.specs.Expressions.{Kept, chain, orelse, on_each, expression_here, joint_here, all_expressions, all_links}
use Rattle.hol_tactic_grammar.specs.Tactics.{Meaning}
use Rattle.hol_tactic_grammar.proofs.Rows.{chain_means, orelse_means, thenl_means}
use Rattle.hol_tactic_grammar.specs.Reading.{IsReadOfOne, IsReadInTurn, IsRead, AreRead, IsJointRead, AreLinksRead}

pub chain-in-turn : (scope : Scope) (first : _) (others : _) {whole now : Tac Kept} {all : List (Link Kept)} (outcome : Result combinators.Tactic Fault)
    → whole ≡ tac.Chain first others → now ≡ first.value → all ≡ others.items → IsRead scope (expression_here whole) outcome
    → IsReadInTurn (IsRead scope (expression_here now)) (AreLinksRead scope (all_links (map joint_here all))) combinators.chain outcome
chain-in-turn scope first others {now = now} outcome is same_first same_others read =
    subst (λ e. IsRead scope e outcome)
    (ap expression_here is ∙ chain_means first others ∙ ap (λ t. chain (expression_here t) (all_links (map joint_here others.items))) (sym same_first)
    ∙ ap (λ ls. chain (expression_here now) (all_links (map joint_here ls))) (sym same_others)) read

pub orelse-in-turn : (scope : Scope) (first : _) (others : _) {whole now : Tac Kept} {all : List (Tac Kept)} (outcome : Result combinators.Tactic Fault)
    → whole ≡ tac.OrElse first others → now ≡ first.value → all ≡ others.items → IsRead scope (expression_here whole) outcome
    → IsReadInTurn (IsRead scope (expression_here now)) (AreRead scope (all_expressions (map expression_here all))) combinators.orelse outcome
orelse-in-turn scope first others {now = now} outcome is same_first same_others read =
    subst (λ e. IsRead scope e outcome)
    (ap expression_here is ∙ orelse_means first others ∙ ap (λ t. orelse (expression_here t) (all_expressions (map expression_here others.items))) (sym same_first)
    ∙ ap (λ ts. orelse (expression_here now) (all_expressions (map expression_here ts))) (sym same_others)) read

pub thenl-of-one : (scope : Scope) (each : _) {whole : Link Kept} {all : List (Tac Kept)} (outcome : Result combinators.Link Fault)
    → whole ≡ links.Thenl each → all ≡ each.items → IsJointRead scope (joint_here whole) outcome
    → IsReadOfOne (AreRead scope (all_expressions (map expression_here all))) combinators.then_each outcome
thenl-of-one scope each outcome is same read =
    subst (λ j. IsJointRead scope j outcome)
    (ap joint_here is ∙ thenl_means each ∙ ap (λ ts. on_each (all_expressions (map expression_here ts))) (sym same)) read
