use Rattle.std.proofs.Common.{◌≡◌, ◌∷◌, true}
use Rattle.hol_model.specs.Logic.Theory.{declaration_of_type}
use Rattle.hol_model.specs.Terms.Name.{is_declared_type_name}
use Rattle.hol_model.specs.Logic.Legality.{is_new_name}
use Rattle.hol_kernel.proofs.DefinitionLemmas.{declared_type-legal, only_grows}
use Rattle.hol_kernel.proofs.theory.Theory.new_type.Goals as goal

pub grow_by_type-requires-clause-legal : goal.grow_by_type-requires-clause-legal
grow_by_type-requires-clause-legal c =
    let named : is_declared_type_name c.args.name.now ≡ true = cc (c.is_declared_type_name.ensures, c.if-not-is_declared_type_name.false, c.as_bytes.ensures.value) in
    let new : is_new_name c.args.self.now c.args.name.now ≡ true = cc (c.is_new_name.ensures, c.if-not-is_new_name.false) in
    let is : c.in_ok-entries.entries ≡ declaration_of_type c.args.name.now ∷ c.args.self.now = cc (c.in_ok-entries.ensures.ok, c.entries.ensures.value) in
    rw is (declared_type-legal c.args.self.now c.entries.ensures.legal c.args.name.now named new)

pub returns-clause-earlier : goal.returns-clause-earlier
returns-clause-earlier c =
    let is : c.in_ok-entries.entries ≡ declaration_of_type c.args.name.now ∷ c.args.self.now = cc (c.in_ok-entries.ensures.ok, c.entries.ensures.value) in
    only_grows (declaration_of_type c.args.name.now) c.args.self.now c.grow_by_type.new.self c.in_ok-entries.entries c.grow_by_type.result is c.grow_by_type.ensures.ok c.grow_by_type.ensures.kept
