use Rattle.std.proofs.Common.{◌∙◌, ap, refl, map, subst, ℕ, Err}
use Rattle.std.proofs.lemmas.List.{length-map}
use Rattle.std.proofs.lemmas.Result.{err_from_is_err_and}
use Rattle.hol_model_sessions.specs.Commands.{by_name, quotes_tokens}
use Rattle.hol_syntax_grammar.specs.Views.{tokens_of}
use Rattle.hol_script_commands.specs.Reading.{TakesOnlyNames}
use Rattle.hol_script_commands.proofs.ReadingLemmas.{behind-quotes, names-refused}
use Rattle.hol_script_commands.proofs.rules.parse_named.Goals as goal

pub only_names-requires : goal.only_names-requires
only_names-requires c =
    let read = c.in_ok-terms.ensures in
    behind-quotes read.0 (tokens_of c.args.tokens.now) (tokens_of c.in_ok-terms.rest.now) read.3 c.requires

pub returns : goal.returns
returns c =
    let read = c.in_ok-terms.ensures in
    let named = c.in_ok-names.ensures in
    let terms = read.1 ∙ c.terms.ensures in
    let theorems = length-map c.in_ok-names.names.items (λ name. name.now) ∙ named.0 ∙ c.theorems.ensures in
    (by_name c.args.rule read.0 (map (λ name. name.now) c.in_ok-names.names.items), (terms, theorems, read.2), refl, read.3 ∙ ap (quotes_tokens read.0) named.1, (refl, terms, read.4, refl))

pub returns-in_err-names : goal.returns-in_err-names
returns-in_err-names c =
    let read = c.in_ok-terms.ensures in
    let p = err_from_is_err_and c.from_residual-in_err-names.result c.from_residual-in_err-names.ensures.1 in
    rw (p.1, p.2)
    (names-refused c.in_err-names.field-0.0 c.args.rule (tokens_of c.args.tokens.now) (tokens_of c.in_ok-terms.rest.now) read.0 (read.1 ∙ c.terms.ensures) read.2 read.3
    (subst (λ (count : ℕ). TakesOnlyNames (Err c.in_err-names.field-0.0) count (tokens_of c.in_ok-terms.rest.now)) c.theorems.ensures c.in_err-names.ensures))
