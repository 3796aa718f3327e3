use Rattle.std.proofs.Common.{refl}
use Rattle.std.proofs.lemmas.Result.{err_from_is_err_and}
use Rattle.hol_model_sessions.specs.CommandGrammar.{e_command}
use Rattle.hol_script_commands.proofs.CommandLemmas.{expand-refused}
use Rattle.hol_script_commands.proofs.goals.parse_expand.Goals as goal

pub returns : goal.returns
returns c =
    let read = c.in_ok-tactic_of.ensures in
    (e_command read.0, read.1, refl, read.2, record { expression = read.0; is = refl; means = read.3 })

pub returns-in_err-tactic_of : goal.returns-in_err-tactic_of
returns-in_err-tactic_of c =
    let p = err_from_is_err_and c.from_residual.result c.from_residual.ensures.1 in
    rw (p.1, p.2)
    (expand-refused c.in_err-tactic_of.field-0.0 c.args.tokens.now c.in_err-tactic_of.ensures)
