use Rattle.std.proofs.Common.{ℕ, List, drop}
use Rattle.hol_model.specs.Texts.TypeGrammar.{TypeTree}
use Rattle.hol_model_sessions.specs.Sessions.{scope_in, type_replacement}
use Rattle.hol_script_session.specs.SessionState.{state_of}
use Rattle.hol_script_commands.specs.Views.{Match, IsTypePair}
use Rattle.hol_script_inference.proofs.ReplacementLemmas.{IsReadTo}
use Rattle.hol_script_inference.proofs.instances.type_replacements.Given as goal

-- the pairs so far are read
abbrev pub invariant-loop-pair : goal.invariant-loop-pair
invariant-loop-pair l = (trees : List (TypeTree × List ℕ)) → Match IsTypePair l.pairs trees
    → IsReadTo IsTypePair (type_replacement (scope_in (state_of l.session))) (drop l.pair-index l.pairs) l.theta.items trees
