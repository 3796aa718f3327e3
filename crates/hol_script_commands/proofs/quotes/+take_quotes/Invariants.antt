use Rattle.hol_script_commands.proofs.quotes.+take_quotes.Given as goal

abbrev pub decreases-take_quotes : goal.decreases-take_quotes
decreases-take_quotes l = l.count
