use Rattle.std.proofs.Common.{sym, ap}
use Rattle.hol_journal.specs.Journal.{theorem_in}
use Rattle.hol_script_session.specs.SessionState.{state_of, theorem_of}
use Rattle.hol_script_inference.proofs.ReplacementLemmas.{inst_type-answers}
use Rattle.hol_script_inference.proofs.instances.inst_type.Goals as goal

pub returns-clause-answers : goal.returns-clause-answers
returns-clause-answers c = λ trees matched.
    inst_type-answers (theorem_in c.apply_rule.result) (state_of c.args.session.now) trees c.args.name.now c.in_ok-theta.theta.items c.in-Some.premise.now.theorem
    (c.in_ok-theta.ensures trees matched) (ap theorem_of (sym c.in-Some.ensures.found)) c.apply_rule.ensures.outcome.is
