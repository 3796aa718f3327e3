use Rattle.std.proofs.Common.{refl}
use Rattle.hol_model_sessions.specs.CommandGrammar.{save_command}
use Rattle.hol_script_commands.proofs.ReadingLemmas.{no-tokens}
use Rattle.hol_script_commands.proofs.command.parse_save.Goals as goal

pub returns : goal.returns
returns c =
    let tree = save_command c.args.name.now in
    (tree, record { grammatical = tt; kind_is = refl; name_is = refl; spelled = no-tokens c.args.tokens.now c.if-not-is_empty.ensures }, record { is = refl })
