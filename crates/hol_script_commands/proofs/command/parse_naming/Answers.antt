use Rattle.hol_syntax_grammar.specs.Views.{tokens_of}
use Rattle.hol_script_commands.specs.declared.command.NamingKind.TheVariants.{Thm, Show, Var, Def, NewType, NewConst, Save}
use Rattle.hol_script_commands.proofs.CommandLemmas.{naming-parsed}
use Rattle.hol_script_commands.proofs.command.parse_naming.Goals as goal

pub returns-in-Thm : goal.returns-in-Thm
returns-in-Thm c = rw c.in-Thm.is (naming-parsed c.parse_thm.result Thm (tokens_of c.args.tokens.now) (tokens_of c.in-Some.body.now) c.in-Some.name.now c.in-Some.ensures c.parse_thm.ensures)

pub returns-in-Show : goal.returns-in-Show
returns-in-Show c = rw c.in-Show.is (naming-parsed c.parse_show.result Show (tokens_of c.args.tokens.now) (tokens_of c.in-Some.body.now) c.in-Some.name.now c.in-Some.ensures c.parse_show.ensures)

pub returns-in-Var : goal.returns-in-Var
returns-in-Var c = rw c.in-Var.is (naming-parsed c.parse_var.result Var (tokens_of c.args.tokens.now) (tokens_of c.in-Some.body.now) c.in-Some.name.now c.in-Some.ensures c.parse_var.ensures)

pub returns-in-Def : goal.returns-in-Def
returns-in-Def c = rw c.in-Def.is (naming-parsed c.parse_def.result Def (tokens_of c.args.tokens.now) (tokens_of c.in-Some.body.now) c.in-Some.name.now c.in-Some.ensures c.parse_def.ensures)

pub returns-in-NewType : goal.returns-in-NewType
returns-in-NewType c =
    rw c.in-NewType.is (naming-parsed c.parse_newtype.result NewType (tokens_of c.args.tokens.now) (tokens_of c.in-Some.body.now) c.in-Some.name.now c.in-Some.ensures c.parse_newtype.ensures)

pub returns-in-NewConst : goal.returns-in-NewConst
returns-in-NewConst c =
    rw c.in-NewConst.is (naming-parsed c.parse_newconst.result NewConst (tokens_of c.args.tokens.now) (tokens_of c.in-Some.body.now) c.in-Some.name.now c.in-Some.ensures c.parse_newconst.ensures)

pub returns-in-Save : goal.returns-in-Save
returns-in-Save c = rw c.in-Save.is (naming-parsed c.parse_save.result Save (tokens_of c.args.tokens.now) (tokens_of c.in-Some.body.now) c.in-Some.name.now c.in-Some.ensures c.parse_save.ensures)
