use Rattle.std.proofs.Common.{◌≡◌, Some}
use Rattle.hol_syntax_grammar.specs.Views.{tokens_of}
use Rattle.hol_script_commands.specs.declared.command.CommandKind.TheVariants.{Naming, OfGoals}
use Rattle.hol_script_commands.specs.Reading.{command_kind_of}
use Rattle.hol_script_commands.proofs.CommandLemmas.{command-parsed}
use Rattle.hol_script_commands.proofs.command.parse_command.Goals as goal

pub returns-in-Naming : goal.returns-in-Naming
returns-in-Naming c =
    let known : command_kind_of c.in-Some.word.now ≡ Some (Naming c.in-Naming.kind) = cc (c.in-Some-command_kind.ensures, c.in-Naming.is) in
    let tokens = tokens_of c.args.tokens.now in
    let arguments = tokens_of c.in-Some.arguments.now in
    command-parsed c.parse_naming.result (Naming c.in-Naming.kind) tokens arguments c.in-Some.word.now c.in-Some.ensures known c.parse_naming.ensures

pub returns-in-OfGoals : goal.returns-in-OfGoals
returns-in-OfGoals c =
    let known : command_kind_of c.in-Some.word.now ≡ Some (OfGoals c.in-OfGoals.kind) = cc (c.in-Some-command_kind.ensures, c.in-OfGoals.is) in
    let tokens = tokens_of c.args.tokens.now in
    let arguments = tokens_of c.in-Some.arguments.now in
    command-parsed c.parse_goal_command.result (OfGoals c.in-OfGoals.kind) tokens arguments c.in-Some.word.now c.in-Some.ensures known c.parse_goal_command.ensures
