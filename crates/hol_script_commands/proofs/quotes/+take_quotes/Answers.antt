use Rattle.std.proofs.Common.{[], refl, sym, append-nil, arith}
use Rattle.std.proofs.lemmas.Result.{err_from_is_err_and}
use Rattle.hol_syntax_grammar.specs.Views.{tokens_of}
use Rattle.hol_script_commands.proofs.ReadingLemmas.{first-refused, first-taken}
use Rattle.hol_script_commands.proofs.quotes.+take_quotes.Goals as goal

pub returns-then-count-eq0 : goal.returns-then-count-eq0
returns-then-count-eq0 t c = ([], [], sym c.if-count-eq0.true, tt, refl, tt, sym (append-nil c.args.terms.now.items))

pub returns-in_err-steps : goal.returns-in_err-steps
returns-in_err-steps t c =
    let p = err_from_is_err_and c.from_residual.result c.from_residual.ensures.1 in
    let items = c.args.terms.now.items in
    rw (p.1, p.2)
    (first-refused c.in_err-steps.field-0.0 (tokens_of c.args.tokens.now) c.args.count items items (omega (arith, c.if-count-eq0.false)) c.in_err-steps.ensures)

pub returns : goal.returns
returns t c =
    first-taken c.take_quotes.result (tokens_of c.args.tokens.now) (tokens_of c.in_ok-steps.rest.now) c.in_ok-steps.steps c.args.count
    c.args.terms.now.items c.push.new.self.items c.take_quotes.new.terms.items (omega (arith, c.if-count-eq0.false))
    c.in_ok-steps.ensures c.in_ok-push.ensures.items c.take_quotes.ensures
