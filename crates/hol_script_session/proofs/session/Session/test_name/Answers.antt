use Rattle.std.proofs.Common.{refl, sym, inl}
use Rattle.hol_script_session.specs.SessionState.{state_of}
use Rattle.hol_script_session.proofs.SessionLemmas.{name_tested, name_taken}
use Rattle.hol_script_session.proofs.session.Session.test_name.Goals as goal

pub returns-then-not-is_theorem_name : goal.returns-then-not-is_theorem_name
returns-then-not-is_theorem_name c = inl (refl, sym c.if-not-is_theorem_name.ensures)

pub returns-then-is_some : goal.returns-then-is_some
returns-then-is_some c =
    name_taken (state_of c.args.self.now) c.args.name.now c.get.result _ c.get.ensures.found refl (sym c.if-not-is_theorem_name.ensures) (sym c.if-is_some.ensures)

pub returns : goal.returns
returns c = name_tested (state_of c.args.self.now) c.args.name.now c.get.result _ c.get.ensures.found refl (sym c.if-not-is_theorem_name.ensures) (sym c.if-is_some.ensures)
