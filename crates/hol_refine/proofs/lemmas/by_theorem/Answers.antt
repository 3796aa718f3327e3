use Rattle.std.proofs.Common.{rules}
use Rattle.hol_model.specs.Goals.Replays.{IsProvedOver}
use Rattle.hol_refine.proofs.lemmas.by_theorem.Goals as goal

pub returns-clause-outcome : goal.returns-clause-outcome
returns-clause-outcome c =
    let proved : IsProvedOver c.args.library.now.recorder.theory c.args.theorem.theorem = search rules in
    record { proved = proved; is_step = c.in_ok-step.ensures; stored = c.in_ok-add_lemma.ensures.ok }
