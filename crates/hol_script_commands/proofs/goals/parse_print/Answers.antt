use Rattle.std.proofs.Common.{refl}
use Rattle.hol_model_sessions.specs.CommandGrammar.{p_command}
use Rattle.hol_script_commands.proofs.ReadingLemmas.{no-tokens}
use Rattle.hol_script_commands.proofs.goals.parse_print.Goals as goal

pub returns : goal.returns
returns c = (p_command, tt, refl, no-tokens c.args.tokens.now c.if-not-is_empty.ensures, record { is = refl })
