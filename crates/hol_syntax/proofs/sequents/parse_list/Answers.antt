use Rattle.std.proofs.Common.{[], None, Some, Ok, Err, sym, subst}
use Rattle.std.proofs.lemmas.Result.{err_from_is_err_and}
use Rattle.hol_syntax.specs.declared.sequents.Separator.TheVariants.{Comma as CommaHere}
use Rattle.hol_syntax_grammar.specs.Views.{tokens_of}
use Rattle.hol_syntax_grammar.specs.TermStates.{Parses}
use Rattle.hol_syntax.specs.SequentStates.{IsFound, AreSteps}
use Rattle.hol_syntax_grammar.proofs.TermRuns.{rest_here}
use Rattle.hol_syntax.proofs.SequentReading.{listed_more, fails_within, fails_last, lists_all, part_here, within_more, not_empty, is_nil}
use Rattle.hol_syntax.proofs.sequents.parse_list.Goals as goal

pub returns-then-is_empty : goal.returns-then-is_empty
returns-then-is_empty c = ([], [], tt, is_nil c.args.tokens.now c.if-is_empty.ensures, subst (λ l. AreSteps l []) (sym c.new-parsed.ensures.items) tt)

pub returns-in_err-steps : goal.returns-in_err-steps
returns-in_err-steps c =
    let tokens = c.args.tokens.now in
    let at = c.loop-count.at in
    let n = c.in-Some.count in
    let p = err_from_is_err_and c.from_residual.result c.from_residual.ensures.1 in
    rw (p.1, p.2)
    (fails_within c.in_err-steps.field-0.0 (tokens_of tokens) at n c.loop-count.parsed.items (not_empty tokens c.if-is_empty.ensures) c.loop-count.invariant.listed
    (subst (λ l. IsFound (Some n) CommaHere l) (rest_here at tokens) c.in-Some.ensures) (subst (λ l. Parses (Err c.in_err-steps.field-0.0) l) (part_here at n tokens) c.in_err-steps.ensures))

pub loop-count-preserved : goal.loop-count-preserved
loop-count-preserved c =
    let tokens = c.args.tokens.now in
    let at = c.loop-count.at in
    let n = c.in-Some.count in
    let found = subst (λ l. IsFound (Some n) CommaHere l) (rest_here at tokens) c.in-Some.ensures in
    record {
      listed = listed_more (tokens_of tokens) at n c.loop-count.parsed.items c.push.new.self.items c.in_ok-steps.steps c.loop-count.invariant.listed found
          (subst (λ l. Parses (Ok c.in_ok-steps.steps) l) (part_here at n tokens) c.in_ok-steps.ensures) c.in_ok-push.ensures.items;
      within = within_more tokens at n c.loop-count.invariant.within found;
    }

pub returns-in_err-last : goal.returns-in_err-last
returns-in_err-last c =
    let tokens = c.args.tokens.now in
    let at = c.loop-count.at in
    let p = err_from_is_err_and c.from_residual-in_err-last.result c.from_residual-in_err-last.ensures.1 in
    rw (p.1, p.2)
    (fails_last c.in_err-last.field-0.0 (tokens_of tokens) at c.loop-count.parsed.items (not_empty tokens c.if-is_empty.ensures) c.loop-count.invariant.listed
    (subst (λ l. IsFound None CommaHere l) (rest_here at tokens) c.in_default.ensures)
    (subst (λ l. Parses (Err c.in_err-last.field-0.0) l) (rest_here at tokens) c.in_err-last.ensures))

pub returns : goal.returns
returns c =
    let tokens = c.args.tokens.now in
    let at = c.loop-count.at in
    lists_all (tokens_of tokens) at c.loop-count.parsed.items c.push-2.new.self.items c.in_ok-last.last c.loop-count.invariant.listed
    (subst (λ l. IsFound None CommaHere l) (rest_here at tokens) c.in_default.ensures)
    (subst (λ l. Parses (Ok c.in_ok-last.last) l) (rest_here at tokens) c.in_ok-last.ensures) c.in_ok-push-2.ensures.items
