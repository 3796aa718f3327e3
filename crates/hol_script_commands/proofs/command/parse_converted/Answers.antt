use Rattle.hol_script_commands.proofs.command.parse_converted.Goals as goal

pub returns : goal.returns
returns c =
    let read = c.in_ok-conversion.ensures in
    (read.0, read.1, read.2, read.3, read.4, (read.5, read.6))
