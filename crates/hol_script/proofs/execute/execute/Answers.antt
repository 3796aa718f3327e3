use Rattle.std.proofs.Common.{List, sym, subst, ap, ◌∙◌}
use Rattle.hol_model.specs.Texts.Lexing.{Lexes}
use Rattle.hol_syntax_grammar.specs.Views.{tokens_of}
use Rattle.hol_script_commands.proofs.ReadingLemmas.{tokens-lexed}
use Rattle.hol_script_manager.specs.Session.{session_tools}
use Rattle.hol_script_manager.specs.Managers.{state_of}
use Rattle.hol_script.proofs.CommandTurns.{lacks_memory, unlexed, unread, spelled_turn}
use Rattle.hol_script.proofs.execute.execute.Goals as goal

pub returns-in-Err-Memory-clause-turns : goal.returns-in-Err-Memory-clause-turns
returns-in-Err-Memory-clause-turns g c =
    rw c.plain.ensures (lacks_memory (session_tools (g.H.Refiners.refiners c.args.host.now) (g.H.Converters.conversions c.args.host.now)) (state_of c.args.manager.now) c.args.text.now)

pub returns-in-Err-Syntax-clause-turns : goal.returns-in-Err-Syntax-clause-turns
returns-in-Err-Syntax-clause-turns g c =
    rw c.plain-in-Err-Syntax.ensures (unlexed (session_tools (g.H.Refiners.refiners c.args.host.now) (g.H.Converters.conversions c.args.host.now)) (state_of c.args.manager.now) c.args.text.now
    (λ tokens lexed. rw c.in-Err-Syntax.field-0-is at (c.in-Err-Syntax.ensures.only tokens lexed)))

pub parse_command-requires : goal.parse_command-requires
parse_command-requires g c = rw c.deref.ensures.value (tokens-lexed c.args.text.now (tokens_of c.in-Ok.tokens.items) c.in-Ok.ensures.found)

pub returns-in-Ok-parse_command-clause-turns : goal.returns-in-Ok-parse_command-clause-turns
returns-in-Ok-parse_command-clause-turns g c =
    let lexed = subst (λ (tokens : List _). Lexes c.args.text.now (tokens_of tokens)) (sym c.deref.ensures.value) c.in-Ok.ensures.found in
    let (tree, read, is) = c.in-Ok-parse_command.ensures in
    spelled_turn c.args.text.now tree (record { tokens = tokens_of c.deref.result.now; lexed = lexed; read = read }) (c.perform.ensures.performs tree is)

pub returns-in-Err-Memory-parse_command-clause-turns : goal.returns-in-Err-Memory-parse_command-clause-turns
returns-in-Err-Memory-parse_command-clause-turns g c =
    rw c.plain-in-Err-Memory-parse_command.ensures (lacks_memory (session_tools (g.H.Refiners.refiners c.args.host.now) (g.H.Converters.conversions c.args.host.now)) (state_of c.args.manager.now)
    c.args.text.now)

pub returns-clause-turns : goal.returns-clause-turns
returns-clause-turns g c =
    rw c.plain-in-Err-Syntax-parse_command.ensures (unread (session_tools (g.H.Refiners.refiners c.args.host.now) (g.H.Converters.conversions c.args.host.now)) (state_of c.args.manager.now)
    c.args.text.now (tokens_of c.deref.result.now)
    (λ other lexed. ap tokens_of c.deref.ensures.value ∙ c.in-Ok.ensures.only other lexed)
    (rw c.in-Err-Syntax-parse_command.field-0-is at c.in-Err-Syntax-parse_command.ensures))
