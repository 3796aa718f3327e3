use Rattle.std.proofs.Common.{[], Err, sym, ap, ◌∙◌, subst}
use Rattle.std.proofs.lemmas.Result.{err_from_is_err_and}
use Rattle.hol_model.specs.Texts.TermGrammar.{IsReadTerm}
use Rattle.hol_model.specs.Texts.Reading.{meaning}
use Rattle.hol_model.specs.Texts.Texts.{SpellsTerm}
use Rattle.hol_syntax.specs.Scope.{scope_of}
use Rattle.hol_syntax_grammar.specs.Views.{tokens_of}
use Rattle.hol_syntax_grammar.specs.TermStates.{Parses}
use Rattle.hol_syntax.proofs.Readings.{unread, unlexed}
use Rattle.hol_syntax.proofs.terms.read_term.Goals as goal

pub returns-in_err-tokens-clause-refused : goal.returns-in_err-tokens-clause-refused
returns-in_err-tokens-clause-refused c =
    let p = err_from_is_err_and c.from_residual.result c.from_residual.ensures.1 in
    rw (p.1, p.2)
    (unlexed (SpellsTerm c.args.text.now) (meaning (scope_of c.args.scope.now) []) c.args.text.now c.in_err-tokens.field-0.0 c.in_err-tokens.ensures.only
    (λ tree s. (s.tokens, s.lexed)))

pub returns-in_err-steps-clause-refused : goal.returns-in_err-steps-clause-refused
returns-in_err-steps-clause-refused c =
    let p = err_from_is_err_and c.from_residual-in_err-steps.result c.from_residual-in_err-steps.ensures.1 in
    rw (p.1, p.2)
    (unread (SpellsTerm c.args.text.now) (meaning (scope_of c.args.scope.now) []) c.in_err-steps.field-0.0
    (λ e tree s. subst (λ x. Parses (Err x) (tokens_of c.deref.result.now)) e c.in_err-steps.ensures tree
    (subst (λ l. IsReadTerm l tree) (sym (ap tokens_of c.deref.ensures.value ∙ c.in_ok-tokens.ensures.only s.tokens s.lexed)) s.read)))
