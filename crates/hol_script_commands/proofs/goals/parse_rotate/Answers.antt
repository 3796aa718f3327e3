use Rattle.std.proofs.Common.{refl}
use Rattle.hol_model_sessions.specs.CommandGrammar.{r_command}
use Rattle.hol_script_commands.proofs.goals.parse_rotate.Goals as goal

pub returns-in-Some : goal.returns-in-Some
returns-in-Some c =
    let read = c.in-Some.ensures in
    (r_command read.0, tt, refl, read.1, record { digits = read.0; is = refl; value = read.2 })
