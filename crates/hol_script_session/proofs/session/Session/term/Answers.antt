use Rattle.std.proofs.Common.{[], subst}
use Rattle.hol_model.specs.Kernel.Outcome.{Answers}
use Rattle.hol_model.specs.Texts.Reading.{Scope, meaning}
use Rattle.hol_script_session.proofs.SessionLemmas.{scope_same}
use Rattle.hol_script_session.proofs.session.Session.term.Goals as goal

pub returns : goal.returns
returns c = λ tree same.
    subst (λ (scope : Scope). Answers c.term_of_steps.result (meaning scope [] tree)) (scope_same c.args.self.now c.requires) (c.term_of_steps.ensures tree same)
