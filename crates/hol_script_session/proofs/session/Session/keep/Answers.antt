use Rattle.std.proofs.Common.{refl}
use Rattle.hol_script_session.specs.SessionState.{state_of}
use Rattle.hol_script_session.proofs.GrowthLemmas.{same_stays}
use Rattle.hol_script_session.proofs.LaterLemmas.{later_as, later_stored}
use Rattle.hol_script_session.proofs.SessionLemmas.{keeps_line}
use Rattle.hol_script_session.proofs.session.Session.keep.Goals as goal

pub returns-in_err-line-clause-later : goal.returns-in_err-line-clause-later
returns-in_err-line-clause-later c = later_as (state_of c.args.self.now) (state_of c.args.self.now) refl

pub returns-clause-ok : goal.returns-clause-ok
returns-clause-ok c =
    keeps_line c.args.self.now c.store.new.self c.args.name.now c.args.theorem.theorem c.in_ok-line.line c.requires.session c.sound.ensures
    (rw c.thm-thm.ensures at c.well_formed-2.ensures) c.requires.made.earlier
    (rw c.thm-thm.ensures at c.in_ok-line.ensures.ok) c.in_ok-store.ensures.ok

pub returns-clause-stays : goal.returns-clause-stays
returns-clause-stays c = same_stays c.args.self.now c.store.new.self c.in_ok-store.ensures.recorder

pub returns-in_err-store-clause-stays : goal.returns-in_err-store-clause-stays
returns-in_err-store-clause-stays c = same_stays c.args.self.now c.store.new.self c.in_err-store.ensures.recorder

pub returns-clause-later : goal.returns-clause-later
returns-clause-later c =
    later_stored (state_of c.args.self.now) (state_of c.store.new.self) c.args.name.now c.args.theorem.theorem c.requires.named.named c.requires.named.none c.in_ok-store.ensures.ok

pub returns-in_err-store-clause-later : goal.returns-in_err-store-clause-later
returns-in_err-store-clause-later c = later_as (state_of c.args.self.now) (state_of c.store.new.self) c.in_err-store.ensures.err
