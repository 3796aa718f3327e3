use Rattle.std.proofs.Common.{◌≡◌, take}
use Rattle.hol_syntax_grammar.specs.Views.{tokens_of}
use Rattle.hol_script_commands.proofs.ReadingLemmas.{names_of}
use Rattle.hol_script_commands.proofs.tokens.only_names.Given as goal

-- the tokens so far are names
abbrev pub invariant-loop-token : goal.invariant-loop-token
invariant-loop-token l = tokens_of (take l.token-index l.tokens) ≡ names_of l.names.items
