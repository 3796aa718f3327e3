use Rattle.std.proofs.Common.{◌≡◌}
use Rattle.hol_syntax_grammar.specs.declared.token.Token.TheVariants.{Name}
use Rattle.hol_script_commands.proofs.ReadingLemmas.{name-read}
use Rattle.hol_script_commands.proofs.tokens.token_name.Goals as goal

pub returns-in-Name : goal.returns-in-Name
returns-in-Name c =
    let is : c.args.token.now ≡ Name c.in-Name.bytes = cc in
    name-read c.identifier.result c.args.token.now c.in-Name.bytes is c.requires c.identifier.ensures
