use Rattle.std.proofs.Common.{◌≡◌, refl, ap, ◌∙◌, subst}
use Rattle.hol_model_sessions.specs.CommandGrammar.{CommandTree, thm_command, var_command, def_command, newtype_command, newconst_command}
use Rattle.hol_syntax_grammar.specs.Steps.{flat_steps_of}
use Rattle.hol_syntax_grammar.specs.Views.{steps_of}
use Rattle.hol_script_commands.specs.declared.command.Command.{Command}
use Rattle.hol_script_commands.specs.Views.{IsCommand}
use Rattle.hol_script_inference.specs.Sessions.{lemmas_of, plainly, Says}
use Rattle.hol_script_manager.proofs.CommandTurns.{carried, carried-plainly}
use Rattle.hol_script_manager.proofs.Managing.{session_manager, session_turn}
use Rattle.hol_script_manager.proofs.manager.Manager.perform.Goals as goal

-- the arguments of a command as the tree has them
read_as : {given command : Command} (tree : CommandTree) → given ≡ command → IsCommand given tree → IsCommand command tree
read_as tree same is = subst (λ (command : Command). IsCommand command tree) same is

pub returns-in-Thm-clause-performs : goal.returns-in-Thm-clause-performs
returns-in-Thm-clause-performs g c = λ tree given.
    let is = read_as tree c.in-Thm.is given in
    carried is.is refl
    (session_turn c.args.self.now c.thm.new.session (thm_command c.in-Thm.name.now is.theorem) (Says c.thm.result) (c.thm.ensures.performs is.theorem is.asks).performs c.thm.ensures.lemmas)

pub returns-in-Thm-clause-kept : goal.returns-in-Thm-clause-kept
returns-in-Thm-clause-kept g c = session_manager c.args.self.now c.thm.new.session c.requires.manager c.thm.ensures.kept c.thm.ensures.lemmas c.thm.ensures.stays c.thm.ensures.later

pub returns-in-Show-clause-performs : goal.returns-in-Show-clause-performs
returns-in-Show-clause-performs g c = λ tree given.
    let is = read_as tree c.in-Show.is given in
    carried-plainly is.is c.plainly.ensures c.show.ensures

pub returns-in-Var-clause-performs : goal.returns-in-Var-clause-performs
returns-in-Var-clause-performs g c = λ tree given.
    let is = read_as tree c.in-Var.is given in
    let old = c.args.self.now in
    carried-plainly is.is c.plainly-in-Var.ensures
    (session_turn old c.var.new.self (var_command c.in-Var.name.now is.ty) (Says (plainly c.var.result))
    (c.var.ensures.performs (lemmas_of old.prover.session) is.ty (ap steps_of c.deref.ensures.value ∙ is.spelled)).performs c.var.ensures.lemmas)

pub returns-in-Var-clause-kept : goal.returns-in-Var-clause-kept
returns-in-Var-clause-kept g c = session_manager c.args.self.now c.var.new.self c.requires.manager c.var.ensures.kept c.var.ensures.lemmas c.var.ensures.stays c.var.ensures.later

pub returns-in-Def-clause-performs : goal.returns-in-Def-clause-performs
returns-in-Def-clause-performs g c = λ tree given.
    let is = read_as tree c.in-Def.is given in
    let old = c.args.self.now in
    carried-plainly is.is c.plainly-in-Def.ensures
    (session_turn old c.def.new.self (def_command c.in-Def.name.now is.term) (Says (plainly c.def.result))
    (c.def.ensures.performs (lemmas_of old.prover.session) is.term (ap flat_steps_of c.deref-in-Def.ensures.value ∙ is.spelled)).performs c.def.ensures.lemmas)

pub returns-in-Def-clause-kept : goal.returns-in-Def-clause-kept
returns-in-Def-clause-kept g c = session_manager c.args.self.now c.def.new.self c.requires.manager c.def.ensures.kept c.def.ensures.lemmas c.def.ensures.stays c.def.ensures.later

pub returns-in-NewType-clause-performs : goal.returns-in-NewType-clause-performs
returns-in-NewType-clause-performs g c = λ tree given.
    let is = read_as tree c.in-NewType.is given in
    let old = c.args.self.now in
    carried-plainly is.is c.plainly-in-NewType.ensures
    (session_turn old c.newtype.new.self (newtype_command c.in-NewType.name.now) (Says (plainly c.newtype.result)) (c.newtype.ensures.performs (lemmas_of old.prover.session)).performs
    c.newtype.ensures.lemmas)

pub returns-in-NewType-clause-kept : goal.returns-in-NewType-clause-kept
returns-in-NewType-clause-kept g c = session_manager c.args.self.now c.newtype.new.self c.requires.manager c.newtype.ensures.kept c.newtype.ensures.lemmas c.newtype.ensures.stays c.newtype.ensures.later

pub returns-in-NewConst-clause-performs : goal.returns-in-NewConst-clause-performs
returns-in-NewConst-clause-performs g c = λ tree given.
    let is = read_as tree c.in-NewConst.is given in
    let old = c.args.self.now in
    carried-plainly is.is c.plainly-in-NewConst.ensures
    (session_turn old c.newconst.new.self (newconst_command c.in-NewConst.name.now is.ty) (Says (plainly c.newconst.result))
    (c.newconst.ensures.performs (lemmas_of old.prover.session) is.ty (ap steps_of c.deref-in-NewConst.ensures.value ∙ is.spelled)).performs c.newconst.ensures.lemmas)

pub returns-in-NewConst-clause-kept : goal.returns-in-NewConst-clause-kept
returns-in-NewConst-clause-kept g c = session_manager c.args.self.now c.newconst.new.self c.requires.manager c.newconst.ensures.kept c.newconst.ensures.lemmas c.newconst.ensures.stays c.newconst.ensures.later

pub returns-in-Goal-clause-performs : goal.returns-in-Goal-clause-performs
returns-in-Goal-clause-performs g c = λ tree given.
    let is = read_as tree c.in-Goal.is given in
    carried-plainly is.is c.plainly-in-Goal.ensures (c.goal.ensures.performs is.term (ap flat_steps_of c.deref-in-Goal.ensures.value ∙ is.spelled))

pub returns-in-Expand-clause-performs : goal.returns-in-Expand-clause-performs
returns-in-Expand-clause-performs g c = λ tree given.
    let is = read_as tree c.in-Expand.is given in
    carried is.is c.plainly-in-Expand.ensures (c.expand.ensures.performs is.expression is.means)

pub returns-in-Back-clause-performs : goal.returns-in-Back-clause-performs
returns-in-Back-clause-performs g c = λ tree given.
    let is = read_as tree c.in-Back.is given in
    carried-plainly is.is c.plainly-in-Back.ensures c.back.ensures.performs

pub returns-in-Print-clause-performs : goal.returns-in-Print-clause-performs
returns-in-Print-clause-performs g c = λ tree given.
    let is = read_as tree c.in-Print.is given in
    carried-plainly is.is c.plainly-in-Print.ensures c.print.ensures

pub returns-in-Rotate-clause-performs : goal.returns-in-Rotate-clause-performs
returns-in-Rotate-clause-performs g c = λ tree given.
    let is = read_as tree c.in-Rotate.is given in
    carried-plainly is.is c.plainly-in-Rotate.ensures (c.rotate.ensures.performs is.digits is.value)

pub returns-in-Save-clause-performs : goal.returns-in-Save-clause-performs
returns-in-Save-clause-performs g c = λ tree given.
    let is = read_as tree c.in-Save.is given in
    carried-plainly is.is c.plainly-in-Save.ensures c.save.ensures.performs
