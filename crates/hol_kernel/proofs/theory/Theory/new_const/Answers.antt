use Rattle.std.proofs.Common.{◌≡◌, ◌∷◌, true}
use Rattle.hol_model.specs.Logic.Theory.{declaration_of_constant}
use Rattle.hol_model.specs.Logic.KnownTerm.{knows_type}
use Rattle.hol_model.specs.Terms.Name.{is_constant_name}
use Rattle.hol_model.specs.Logic.Legality.{is_new_name, is_fixed}
use Rattle.hol_kernel.proofs.DefinitionLemmas.{declared_constant-legal, only_grows}
use Rattle.hol_kernel.proofs.theory.Theory.new_const.Goals as goal

pub grow_by_constant-requires-clause-legal : goal.grow_by_constant-requires-clause-legal
grow_by_constant-requires-clause-legal c =
    let named : is_constant_name c.args.name.now ≡ true = cc (c.is_constant_name.ensures, c.if-not-is_constant_name.false, c.as_bytes.ensures.value) in
    let new : is_new_name c.args.self.now c.args.name.now ≡ true = cc (c.is_new_name.ensures, c.if-not-is_new_name.false) in
    let known : knows_type c.args.self.now c.args.ty.now ≡ true = cc (c.knows_type.ensures, c.if-not-knows_type.false) in
    let fixed : is_fixed c.args.ty.now ≡ true = cc (c.is_fixed.ensures, c.if-not-is_fixed.false) in
    let is : c.in_ok-entries.entries ≡ declaration_of_constant c.args.name.now c.args.ty.now ∷ c.args.self.now =
    cc (c.in_ok-entries.ensures.ok, c.entries.ensures.value) in
    rw is (declared_constant-legal c.args.self.now c.entries.ensures.legal c.args.name.now c.args.ty.now named known fixed new)

pub returns-clause-earlier : goal.returns-clause-earlier
returns-clause-earlier c =
    let is : c.in_ok-entries.entries ≡ declaration_of_constant c.args.name.now c.args.ty.now ∷ c.args.self.now =
    cc (c.in_ok-entries.ensures.ok, c.entries.ensures.value) in
    only_grows (declaration_of_constant c.args.name.now c.args.ty.now) c.args.self.now c.grow_by_constant.new.self c.in_ok-entries.entries
    c.grow_by_constant.result is c.grow_by_constant.ensures.ok c.grow_by_constant.ensures.kept
