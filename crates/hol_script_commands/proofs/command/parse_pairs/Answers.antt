use Rattle.std.proofs.Common.{map}
use Rattle.hol_syntax_grammar.specs.Views.{tokens_of}
use Rattle.hol_script_commands.specs.Pairs.{parts_of}
use Rattle.hol_script_commands.proofs.PairLemmas.{behind-list, no-name-behind-list}
use Rattle.hol_script_commands.proofs.command.parse_pairs.Goals as goal

pub only_name-requires : goal.only_name-requires
only_name-requires c =
    let read = c.in_ok-pairs.ensures in
    behind-list (tokens_of c.args.tokens.now) (tokens_of c.in_ok-pairs.rest.now) (map parts_of c.in_ok-pairs.pairs.items) read.1 c.requires

pub returns : goal.returns
returns c =
    let read = c.in_ok-pairs.ensures in
    no-name-behind-list (tokens_of c.args.tokens.now) (tokens_of c.in_ok-pairs.rest.now) (map parts_of c.in_ok-pairs.pairs.items) read.0 read.1 c.in-None.ensures
