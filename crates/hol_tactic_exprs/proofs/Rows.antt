-- The rows of parts of an expression, as lists.
use Rattle.std.proofs.Common.{rules, ◌≡◌, map, Result, Ok, Err, IfOk, refl, sym, ap, ◌∙◌}
use Rattle.hol_model.specs.declared.fault.Fault.{Fault}
use Rattle.hol_model.specs.Terms.NamedTerm.{NamedTerm}
use Rattle.hol_model.specs.Refining.Conversions as conversions
use Rattle.hol_model.specs.Refining.Combinators as combinators
use Rattle.hol_tactic_exprs.specs.Expressions.{conversion_of, conversions_in, conversions_of, all_conversions}
use Rattle.hol_tactic_exprs.specs.Expressions.{tactic_of, tactics_in, tactics_of, all_tactics, link_of, links_in, links_of, all_links}
use Rattle.hol_tactic_exprs.specs.declared.conv.Conv.{Conv, Row_of-Conv, end_of-Conv, more_of-Conv, items-the_row-Conv, Then, OrElse, the_lemmas}
use Rattle.hol_tactic_exprs.specs.declared.tac.Tac.{Tac, Row_of-Tac, end_of-Tac, more_of-Tac, Row_of-Link, end_of-Link, more_of-Link, items-the_row-Tac, items-the_row-Link}
use Rattle.hol_tactic_exprs.specs.declared.tac.Tac as tac
use Rattle.hol_tactic_exprs.specs.declared.tac.Link as links

pub conversions_in_row : (n : _) (row : Row_of-Conv n) → conversions_in row ≡ conversions_of (items-the_row-Conv n row)
conversions_in_row _ end_of-Conv = refl
conversions_in_row _ (more_of-Conv {n} c others) = ap (conversions.more (conversion_of c)) (conversions_in_row n others)

pub tactics_in_row : (n : _) (row : Row_of-Tac NamedTerm n) → tactics_in row ≡ tactics_of (items-the_row-Tac NamedTerm n row)
tactics_in_row _ end_of-Tac = refl
tactics_in_row _ (more_of-Tac {n} t others) = ap (combinators.more (tactic_of t)) (tactics_in_row n others)

pub links_in_row : (n : _) (row : Row_of-Link NamedTerm n) → links_in row ≡ links_of (items-the_row-Link NamedTerm n row)
links_in_row _ end_of-Link = refl
links_in_row _ (more_of-Link {n} l others) = ap (combinators.link (link_of l)) (links_in_row n others)

-- ---- compound expressions

pub then_means : (first : _) (others : _) → conversion_of (Then first others) ≡ conversions.thenc (conversion_of first.value) (conversions_of others.items)
then_means first others = search (rules, the_lemmas, conversions_in_row)

pub or_else_means : (first : _) (others : _) → conversion_of (OrElse first others) ≡ conversions.orelsec (conversion_of first.value) (conversions_of others.items)
or_else_means first others = search (rules, the_lemmas, conversions_in_row)

pub chain_means : (first : _) (links : _) → tactic_of (tac.Chain first links) ≡ combinators.chain (tactic_of first.value) (links_of links.items)
chain_means first links = search (rules, tac.the_lemmas, links_in_row)

pub orelse_means : (first : _) (others : _) → tactic_of (tac.OrElse first others) ≡ combinators.orelse (tactic_of first.value) (tactics_of others.items)
orelse_means first others = search (rules, tac.the_lemmas, tactics_in_row)

pub thenl_means : (ts : _) → link_of (links.Thenl ts) ≡ combinators.then_each (tactics_of ts.items)
thenl_means ts = search (rules, tac.the_lemmas, tactics_in_row)

-- ---- copies: what is made of copies of the parts means the same

pub then_again : (first : _) (others : _) {whole : _} (first_copy : _) (copies : _) (result : Result Conv Fault) → whole ≡ Then first others
    → conversion_of first_copy ≡ conversion_of first.value → map conversion_of copies ≡ map conversion_of others.items
    → IfOk result (λ made. conversion_of made ≡ conversions.thenc (conversion_of first_copy) (conversions_of copies))
    → IfOk result (λ made. conversion_of made ≡ conversion_of whole)
then_again first others first_copy copies (Ok made) whole same_first same_others is =
    is ∙ ap (λ c. conversions.thenc c (conversions_of copies)) same_first ∙ ap (λ cs. conversions.thenc (conversion_of first.value) (all_conversions cs)) same_others
    ∙ sym (ap conversion_of whole ∙ then_means first others)
then_again first others first_copy copies (Err fault) whole same_first same_others is = is

pub or_else_again : (first : _) (others : _) {whole : _} (first_copy : _) (copies : _) (result : Result Conv Fault) → whole ≡ OrElse first others
    → conversion_of first_copy ≡ conversion_of first.value → map conversion_of copies ≡ map conversion_of others.items
    → IfOk result (λ made. conversion_of made ≡ conversions.orelsec (conversion_of first_copy) (conversions_of copies))
    → IfOk result (λ made. conversion_of made ≡ conversion_of whole)
or_else_again first others first_copy copies (Ok made) whole same_first same_others is =
    is ∙ ap (λ c. conversions.orelsec c (conversions_of copies)) same_first ∙ ap (λ cs. conversions.orelsec (conversion_of first.value) (all_conversions cs)) same_others
    ∙ sym (ap conversion_of whole ∙ or_else_means first others)
or_else_again first others first_copy copies (Err fault) whole same_first same_others is = is

pub chain_again : (first : _) (links : _) {whole : _} (first_copy : _) (copies : _) (result : Result (Tac NamedTerm) Fault) → whole ≡ tac.Chain first links
    → tactic_of first_copy ≡ tactic_of first.value → map link_of copies ≡ map link_of links.items
    → IfOk result (λ made. tactic_of made ≡ combinators.chain (tactic_of first_copy) (links_of copies))
    → IfOk result (λ made. tactic_of made ≡ tactic_of whole)
chain_again first links first_copy copies (Ok made) whole same_first same_links is =
    is ∙ ap (λ t. combinators.chain t (links_of copies)) same_first ∙ ap (λ ls. combinators.chain (tactic_of first.value) (all_links ls)) same_links
    ∙ sym (ap tactic_of whole ∙ chain_means first links)
chain_again first others first_copy copies (Err fault) whole same_first same_links is = is

pub orelse_again : (first : _) (others : _) {whole : _} (first_copy : _) (copies : _) (result : Result (Tac NamedTerm) Fault) → whole ≡ tac.OrElse first others
    → tactic_of first_copy ≡ tactic_of first.value → map tactic_of copies ≡ map tactic_of others.items
    → IfOk result (λ made. tactic_of made ≡ combinators.orelse (tactic_of first_copy) (tactics_of copies))
    → IfOk result (λ made. tactic_of made ≡ tactic_of whole)
orelse_again first others first_copy copies (Ok made) whole same_first same_others is =
    is ∙ ap (λ t. combinators.orelse t (tactics_of copies)) same_first ∙ ap (λ ts. combinators.orelse (tactic_of first.value) (all_tactics ts)) same_others
    ∙ sym (ap tactic_of whole ∙ orelse_means first others)
orelse_again first others first_copy copies (Err fault) whole same_first same_others is = is
