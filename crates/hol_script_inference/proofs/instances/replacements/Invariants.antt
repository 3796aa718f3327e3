use Rattle.std.proofs.Common.{List, drop}
use Rattle.hol_model.specs.Texts.TermGrammar.{TermTree}
use Rattle.hol_model_sessions.specs.Sessions.{scope_in, replacement}
use Rattle.hol_script_session.specs.SessionState.{state_of}
use Rattle.hol_script_commands.specs.Views.{Match, IsTermPair}
use Rattle.hol_script_inference.proofs.ReplacementLemmas.{IsReadTo}
use Rattle.hol_script_inference.proofs.instances.replacements.Given as goal

-- the pairs so far are read
abbrev pub invariant-loop-pair : goal.invariant-loop-pair
invariant-loop-pair l = (trees : List (TermTree × TermTree)) → Match IsTermPair l.pairs trees
    → IsReadTo IsTermPair (replacement (scope_in (state_of l.session))) (drop l.pair-index l.pairs) l.theta.items trees
