use Rattle.std.proofs.Common.{map, arith, subst}
use Rattle.std.specs.String.{string_bytes}
use Rattle.std.proofs.lemmas.Result.{err_from_is_err_and}
use Rattle.hol_model.specs.Texts.Token.{Name}
use Rattle.hol_tactic_exprs.specs.Expressions.{conversion_of}
use Rattle.hol_tactic_grammar.specs.declared.tactic_words.Other.{Other}
use Rattle.hol_tactic_grammar.specs.TacticWords.{other_word}
use Rattle.hol_tactic_grammar.specs.Tokens.{IsAt}
use Rattle.hol_tactic_grammar.proofs.LeafLemmas.{conv-at, unconverted-at, rewrite-at, rewrite-none, unrewritten-at}
use Rattle.hol_tactic_grammar.proofs.leaves.read_other.Goals as goal

pub returns-in_ok-conv-in-Conv : goal.returns-in_ok-conv-in-Conv
returns-in_ok-conv-in-Conv c =
    let front = subst (λ (other : Other). IsAt (Name (other_word other)) c.args.at c.args.tokens.now) c.in-Conv.is c.requires.front in
    conv-at (conversion_of c.in_ok-conv-in-Conv.conv) c.args.at c.in_ok-conv-in-Conv.next c.args.room c.args.tokens.now front c.in_ok-conv-in-Conv.ensures.0 c.in_ok-conv-in-Conv.ensures.1

pub returns-in_err-conv-in-Conv : goal.returns-in_err-conv-in-Conv
returns-in_err-conv-in-Conv c =
    let front = subst (λ (other : Other). IsAt (Name (other_word other)) c.args.at c.args.tokens.now) c.in-Conv.is c.requires.front in
    let p = err_from_is_err_and c.from_residual.result c.from_residual.ensures.1 in
    rw (p.1, p.2)
    (unconverted-at c.in_err-conv-in-Conv.field-0.0 c.args.at c.args.room c.args.tokens.now front c.in_err-conv-in-Conv.ensures)

pub returns-then-room-eq0 : goal.returns-then-room-eq0
returns-then-room-eq0 c =
    let front = subst (λ (other : Other). IsAt (Name (other_word other)) c.args.at c.args.tokens.now) c.in-Rewrite.is c.requires.front in
    rewrite-none c.args.at c.args.room c.args.tokens.now front (λ names rest some same. omega (arith, some, c.if-room-eq0.true))

pub returns-in_ok-names-in-Rewrite : goal.returns-in_ok-names-in-Rewrite
returns-in_ok-names-in-Rewrite c =
    let front = subst (λ (other : Other). IsAt (Name (other_word other)) c.args.at c.args.tokens.now) c.in-Rewrite.is c.requires.front in
    rewrite-at (map string_bytes c.in_ok-names-in-Rewrite.names.items) c.args.at c.in_ok-names-in-Rewrite.next c.args.room c.args.tokens.now (omega (arith, c.if-room-eq0.false)) front
    c.in_ok-names-in-Rewrite.ensures.0 c.in_ok-names-in-Rewrite.ensures.1

pub returns-in_err-names-in-Rewrite : goal.returns-in_err-names-in-Rewrite
returns-in_err-names-in-Rewrite c =
    let front = subst (λ (other : Other). IsAt (Name (other_word other)) c.args.at c.args.tokens.now) c.in-Rewrite.is c.requires.front in
    let p = err_from_is_err_and c.from_residual-in_err-names-in-Rewrite.result c.from_residual-in_err-names-in-Rewrite.ensures.1 in
    rw (p.1, p.2)
    (unrewritten-at c.in_err-names-in-Rewrite.field-0.0 c.args.at c.args.room c.args.tokens.now front c.in_err-names-in-Rewrite.ensures)
