use Rattle.std.proofs.Common.{◌≡◌, ◌+◌, ◌∷◌, List, drop, sym, subst, ◌∙◌, ap}
use Rattle.hol_model_sessions.specs.Sessions.{scope_in, type_replacement}
use Rattle.hol_script_session.specs.SessionState.{state_of}
use Rattle.hol_script_commands.specs.declared.pairs.TypePair.{TypePair}
use Rattle.hol_script_commands.specs.Views.{IsTypePair}
use Rattle.hol_script_inference.proofs.ReplacementLemmas.{IsReadTo, read-further}
use Rattle.hol_script_session.proofs.BeginningLemmas.{item-at}
use Rattle.hol_script_inference.proofs.instances.type_replacements.Goals as goal

pub loop-pair-preserved : goal.loop-pair-preserved
loop-pair-preserved c = λ trees matched.
    let read = type_replacement (scope_in (state_of c.args.session.now)) in
    let pairs = c.args.pairs.now in
    let at = c.loop-pair.pair-index in
    let here : drop at pairs ≡ c.pair-item.result ∷ drop (at + 1) pairs =
    item-at pairs at c.pair-item.result c.loop-pair-test.true ∙ ap (λ (x : TypePair). x ∷ drop (at + 1) pairs) (sym c.pair-item.is) in
    let under = subst (λ (left : List TypePair). IsReadTo IsTypePair read left c.loop-pair.theta.items trees) here (c.loop-pair.invariant trees matched) in
    subst (λ (done : List _). IsReadTo IsTypePair read (drop (at + 1) pairs) done trees) (sym c.in_ok-push.ensures.items)
    (read-further IsTypePair read c.pair-item.result (drop (at + 1) pairs) c.loop-pair.theta.items c.in_ok-type_replacement.field-0 trees under c.in_ok-type_replacement.ensures)
