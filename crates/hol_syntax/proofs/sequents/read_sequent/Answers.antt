use Rattle.std.proofs.Common.{Err, sym, ap, ◌∙◌, subst}
use Rattle.std.proofs.lemmas.Result.{err_from_is_err_and}
use Rattle.hol_model.specs.Texts.SequentGrammar.{SpellsSequent, IsReadSequent, sequent_meaning}
use Rattle.hol_syntax.specs.Scope.{scope_of}
use Rattle.hol_syntax_grammar.specs.Views.{tokens_of}
use Rattle.hol_syntax.specs.SequentStates.{ParsesSequent}
use Rattle.hol_syntax.proofs.Readings.{unread, unlexed}
use Rattle.hol_syntax.proofs.sequents.read_sequent.Goals as goal

pub returns-in_err-tokens-clause-refused : goal.returns-in_err-tokens-clause-refused
returns-in_err-tokens-clause-refused c =
    let p = err_from_is_err_and c.from_residual.result c.from_residual.ensures.1 in
    rw (p.1, p.2)
    (unlexed (SpellsSequent c.args.text.now) (sequent_meaning (scope_of c.args.scope.now)) c.args.text.now c.in_err-tokens.field-0.0 c.in_err-tokens.ensures.only
    (λ tree s. (s.tokens, s.lexed)))

pub returns-in_err-parsed-clause-refused : goal.returns-in_err-parsed-clause-refused
returns-in_err-parsed-clause-refused c =
    let p = err_from_is_err_and c.from_residual-in_err-parsed.result c.from_residual-in_err-parsed.ensures.1 in
    rw (p.1, p.2)
    (unread (SpellsSequent c.args.text.now) (sequent_meaning (scope_of c.args.scope.now)) c.in_err-parsed.field-0.0
    (λ e sequent s. subst (λ x. ParsesSequent (Err x) (tokens_of c.deref.result.now)) e c.in_err-parsed.ensures sequent
    (subst (λ l. IsReadSequent l sequent) (sym (ap tokens_of c.deref.ensures.value ∙ c.in_ok-tokens.ensures.only s.tokens s.lexed)) s.read)))
