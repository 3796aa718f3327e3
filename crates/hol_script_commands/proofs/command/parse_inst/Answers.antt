use Rattle.std.proofs.Common.{refl, sym, ap, ◌∙◌, subst, map, List, [], ◌∷◌, Err}
use Rattle.std.proofs.lemmas.Result.{err_from_is_err_and}
use Rattle.hol_model.specs.Texts.Token.{Name}
use Rattle.hol_model_sessions.specs.Commands.{by_inst, list_tokens}
use Rattle.hol_syntax_grammar.specs.Views.{tokens_of}
use Rattle.hol_script_commands.specs.declared.pairs.QuotedPair.{QuotedPair}
use Rattle.hol_script_commands.specs.Pairs.{parts_of, ParsesTermPairs}
use Rattle.hol_script_commands.proofs.PairLemmas.{Parts, inst-refused, inst-unread}
use Rattle.hol_script_commands.proofs.command.parse_inst.Goals as goal

pub returns-in_err-pairs : goal.returns-in_err-pairs
returns-in_err-pairs c =
    let p = err_from_is_err_and c.from_residual.result c.from_residual.ensures.1 in
    rw (p.1, p.2)
    (inst-refused c.in_err-pairs.field-0.0 (tokens_of c.args.tokens.now) c.in_err-pairs.ensures)

pub returns : goal.returns
returns c =
    let list = c.in_ok-pairs.ensures in
    let read = c.in_ok-parse_term_pairs.ensures in
    let same = read.2 ∙ ap (map parts_of) c.deref.ensures.value in
    (by_inst read.0 c.in_ok-pairs.name.now, read.1, refl, list.1 ∙ ap (λ (pairs : List Parts). list_tokens pairs (Name c.in_ok-pairs.name.now ∷ [])) (sym same), (read.3, refl))

pub returns-in_err-parse_term_pairs : goal.returns-in_err-parse_term_pairs
returns-in_err-parse_term_pairs c =
    let list = c.in_ok-pairs.ensures in
    let p = err_from_is_err_and c.from_residual-in_err-parse_term_pairs.result c.from_residual-in_err-parse_term_pairs.ensures.1 in
    rw (p.1, p.2)
    (inst-unread c.in_err-parse_term_pairs.field-0.0 (tokens_of c.args.tokens.now) (map parts_of c.in_ok-pairs.pairs.items) c.in_ok-pairs.name.now list.0 list.1
    (subst (λ (pairs : List QuotedPair). ParsesTermPairs (Err c.in_err-parse_term_pairs.field-0.0) (map parts_of pairs)) c.deref.ensures.value c.in_err-parse_term_pairs.ensures))
