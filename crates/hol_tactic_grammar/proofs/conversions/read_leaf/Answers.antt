use Rattle.std.proofs.Common.{◌+◌, subst, arith}
use Rattle.std.specs.String.{string_bytes}
use Rattle.std.proofs.lemmas.Result.{err_from_is_err_and}
use Rattle.hol_model.specs.Texts.Token.{Name}
use Rattle.hol_model_sessions.specs.ConversionGrammar.{all_conv, no_conv, beta_conv, rewr_conv, host_conv}
use Rattle.hol_tactic_grammar.specs.declared.conversion_words.Single.{Single}
use Rattle.hol_tactic_grammar.specs.declared.conversion_words.Single.TheVariants.{Rewr, Host}
use Rattle.hol_tactic_grammar.specs.Tokens.{IsAt}
use Rattle.hol_tactic_grammar.specs.ConversionWords.{single_word}
use Rattle.hol_tactic_grammar.proofs.ConversionLemmas.{leaf-at, name-behind, unnamed-at}
use Rattle.hol_tactic_grammar.proofs.conversions.read_leaf.Goals as goal

pub returns-in-All : goal.returns-in-All
returns-in-All c = λ room.
    let front = subst (λ (s : Single). IsAt (Name (single_word s)) c.args.at c.args.tokens.now) c.in-All.is c.requires.front in
    leaf-at all_conv c.args.at (c.args.at + 1) room c.args.tokens.now (omega arith) (omega (arith, front.within)) front.front

pub returns-in-No : goal.returns-in-No
returns-in-No c = λ room.
    let front = subst (λ (s : Single). IsAt (Name (single_word s)) c.args.at c.args.tokens.now) c.in-No.is c.requires.front in
    leaf-at no_conv c.args.at (c.args.at + 1) room c.args.tokens.now (omega arith) (omega (arith, front.within)) front.front

pub returns-in-Beta : goal.returns-in-Beta
returns-in-Beta c = λ room.
    let front = subst (λ (s : Single). IsAt (Name (single_word s)) c.args.at c.args.tokens.now) c.in-Beta.is c.requires.front in
    leaf-at beta_conv c.args.at (c.args.at + 1) room c.args.tokens.now (omega arith) (omega (arith, front.within)) front.front

pub returns-in_ok-read_name-in-Rewr : goal.returns-in_ok-read_name-in-Rewr
returns-in_ok-read_name-in-Rewr c = λ room.
    let front = subst (λ (s : Single). IsAt (Name (single_word s)) c.args.at c.args.tokens.now) c.in-Rewr.is c.requires.front in
    let name = string_bytes c.in_ok-read_name-in-Rewr.field-0 in
    leaf-at (rewr_conv name) c.args.at (c.args.at + 2) room c.args.tokens.now (omega arith) (omega (arith, c.in_ok-read_name-in-Rewr.ensures.within)) (name-behind (single_word Rewr) name c.args.at
    c.args.tokens.now front c.in_ok-read_name-in-Rewr.ensures)

pub returns-in_err-read_name-in-Rewr : goal.returns-in_err-read_name-in-Rewr
returns-in_err-read_name-in-Rewr c =
    let p = err_from_is_err_and c.from_residual.result c.from_residual.ensures.1 in
    rw (p.1, p.2) (λ room.
    let front = subst (λ (s : Single). IsAt (Name (single_word s)) c.args.at c.args.tokens.now) c.in-Rewr.is c.requires.front in
    unnamed-at Rewr c.in_err-read_name-in-Rewr.field-0.0 c.args.at room c.args.tokens.now tt front c.in_err-read_name-in-Rewr.ensures)

pub returns-in_ok-read_name-in-Host : goal.returns-in_ok-read_name-in-Host
returns-in_ok-read_name-in-Host c = λ room.
    let front = subst (λ (s : Single). IsAt (Name (single_word s)) c.args.at c.args.tokens.now) c.in-Host.is c.requires.front in
    let name = string_bytes c.in_ok-read_name-in-Host.field-0 in
    leaf-at (host_conv name) c.args.at (c.args.at + 2) room c.args.tokens.now (omega arith) (omega (arith, c.in_ok-read_name-in-Host.ensures.within)) (name-behind (single_word Host) name c.args.at
    c.args.tokens.now front c.in_ok-read_name-in-Host.ensures)

pub returns-in_err-read_name-in-Host : goal.returns-in_err-read_name-in-Host
returns-in_err-read_name-in-Host c =
    let p = err_from_is_err_and c.from_residual-in_err-read_name-in-Host.result c.from_residual-in_err-read_name-in-Host.ensures.1 in
    rw (p.1, p.2) (λ room.
    let front = subst (λ (s : Single). IsAt (Name (single_word s)) c.args.at c.args.tokens.now) c.in-Host.is c.requires.front in
    unnamed-at Host c.in_err-read_name-in-Host.field-0.0 c.args.at room c.args.tokens.now tt front c.in_err-read_name-in-Host.ensures)
