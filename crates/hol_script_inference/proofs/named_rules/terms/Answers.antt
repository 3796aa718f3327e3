use Rattle.std.proofs.Common.{Vec, Global, ◌≡◌, ◌+◌, ◌∷◌, List, [], drop, sym, subst, ◌∙◌, ap}
use Rattle.hol_model.specs.Texts.Reading.{meaning}
use Rattle.hol_model_sessions.specs.Sessions.{scope_in}
use Rattle.hol_syntax_grammar.specs.declared.steps.TermStep.{TermStep}
use Rattle.hol_syntax_grammar.specs.Steps.{flat_steps_of}
use Rattle.hol_syntax_grammar.specs.TermSteps.{term_steps, flat_steps}
use Rattle.hol_script_session.specs.SessionState.{state_of}
use Rattle.hol_script_commands.specs.Views.{IsTerm}
use Rattle.hol_script_inference.proofs.ReplacementLemmas.{IsReadTo, read-further}
use Rattle.hol_script_session.proofs.BeginningLemmas.{item-at}
use Rattle.hol_script_inference.proofs.named_rules.terms.Goals as goal

pub loop-steps-preserved : goal.loop-steps-preserved
loop-steps-preserved c = λ trees matched.
    let read = meaning (scope_in (state_of c.args.session.now)) [] in
    let quoted = c.args.quoted.now in
    let at = c.loop-steps.steps-index in
    let here : drop at quoted ≡ c.steps-item.result ∷ drop (at + 1) quoted =
    item-at quoted at c.steps-item.result c.loop-steps-test.true ∙ ap (λ (x : Vec TermStep Global). x ∷ drop (at + 1) quoted) (sym c.steps-item.is) in
    let under = subst (λ (left : List (Vec TermStep Global)). IsReadTo IsTerm read left c.loop-steps.terms.items trees) here (c.loop-steps.invariant trees matched) in
    subst (λ (done : List _). IsReadTo IsTerm read (drop (at + 1) quoted) done trees) (sym c.in_ok-push.ensures.items)
    (read-further IsTerm read c.steps-item.result (drop (at + 1) quoted) c.loop-steps.terms.items c.in_ok-term.field-0 trees under
    (λ tree same. c.in_ok-term.ensures tree (subst (λ (items : List TermStep). flat_steps_of items ≡ flat_steps (term_steps tree)) (sym c.deref.ensures.value) same)))
