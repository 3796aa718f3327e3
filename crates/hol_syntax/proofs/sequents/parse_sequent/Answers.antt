use Rattle.std.proofs.Common.{◌+◌, Ok, Err, subst}
use Rattle.std.proofs.lemmas.Result.{err_from_is_err_and}
use Rattle.hol_syntax_grammar.specs.Views.{tokens_of}
use Rattle.hol_syntax_grammar.specs.TermStates.{Parses}
use Rattle.hol_syntax.specs.SequentStates.{ParsesList}
use Rattle.hol_syntax_grammar.proofs.TermRuns.{rest_here}
use Rattle.hol_syntax.proofs.SequentReading.{no_turnstile, fails_hypotheses, fails_conclusion, reads_sequent, front_here}
use Rattle.hol_syntax.proofs.sequents.parse_sequent.Goals as goal

pub returns-in_default : goal.returns-in_default
returns-in_default c = no_turnstile (tokens_of c.args.tokens.now) c.in_default.ensures

pub returns-in_err-hypotheses : goal.returns-in_err-hypotheses
returns-in_err-hypotheses c =
    let tokens = c.args.tokens.now in
    let n = c.in-Some.count in
    let p = err_from_is_err_and c.from_residual.result c.from_residual.ensures.1 in
    rw (p.1, p.2)
    (fails_hypotheses c.in_err-hypotheses.field-0.0 (tokens_of tokens) n c.in-Some.ensures (subst (λ l. ParsesList (Err c.in_err-hypotheses.field-0.0) l) (front_here n tokens) c.in_err-hypotheses.ensures))

pub returns : goal.returns
returns c =
    let tokens = c.args.tokens.now in
    let n = c.in-Some.count in
    reads_sequent (tokens_of tokens) n c.in_ok-hypotheses.hypotheses c.in_ok-conclusion.conclusion c.in-Some.ensures
    (subst (λ l. ParsesList (Ok c.in_ok-hypotheses.hypotheses) l) (front_here n tokens) c.in_ok-hypotheses.ensures)
    (subst (λ l. Parses (Ok c.in_ok-conclusion.conclusion) l) (rest_here (n + 1) tokens) c.in_ok-conclusion.ensures)

pub returns-in_err-conclusion : goal.returns-in_err-conclusion
returns-in_err-conclusion c =
    let tokens = c.args.tokens.now in
    let n = c.in-Some.count in
    let p = err_from_is_err_and c.from_residual-in_err-conclusion.result c.from_residual-in_err-conclusion.ensures.1 in
    rw (p.1, p.2)
    (fails_conclusion c.in_err-conclusion.field-0.0 (tokens_of tokens) n c.in-Some.ensures
    (subst (λ l. Parses (Err c.in_err-conclusion.field-0.0) l) (rest_here (n + 1) tokens) c.in_err-conclusion.ensures))
