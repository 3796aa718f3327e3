use Rattle.std.proofs.Common.{List, [], drop}
use Rattle.hol_model.specs.Texts.Reading.{meaning}
use Rattle.hol_model.specs.Texts.TermGrammar.{TermTree}
use Rattle.hol_model_sessions.specs.Sessions.{scope_in}
use Rattle.hol_script_session.specs.SessionState.{state_of}
use Rattle.hol_script_commands.specs.Views.{AreTerms, IsTerm}
use Rattle.hol_script_inference.proofs.ReplacementLemmas.{IsReadTo}
use Rattle.hol_script_inference.proofs.named_rules.terms.Given as goal

-- the terms so far are read
abbrev pub invariant-loop-steps : goal.invariant-loop-steps
invariant-loop-steps l = (trees : List TermTree) → AreTerms l.quoted trees
    → IsReadTo IsTerm (meaning (scope_in (state_of l.session)) []) (drop l.steps-index l.quoted) l.terms.items trees
