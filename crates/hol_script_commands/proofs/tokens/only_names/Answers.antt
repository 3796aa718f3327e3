use Rattle.hol_script_commands.proofs.ReadingLemmas.{token-at, no-name-at}
use Rattle.hol_script_commands.proofs.tokens.only_names.Goals as goal

pub token_name-requires : goal.token_name-requires
token_name-requires c = token-at c.args.tokens.now c.loop-token.token-index _ c.loop-token-test.true c.requires

pub returns-in_default : goal.returns-in_default
returns-in_default c = λ names counted. no-name-at c.args.tokens.now c.loop-token.token-index _ c.loop-token-test.true c.in_default.ensures names
