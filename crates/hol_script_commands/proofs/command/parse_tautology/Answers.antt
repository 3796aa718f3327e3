use Rattle.hol_script_commands.proofs.command.parse_tautology.Goals as goal

pub returns : goal.returns
returns c =
    let read = c.in_ok-parse_only_quote.ensures in
    (read.0, read.1, read.2, read.3)
