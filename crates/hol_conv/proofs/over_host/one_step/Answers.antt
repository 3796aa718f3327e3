use Rattle.std.proofs.Common.{sym, subst}
use Rattle.hol_theorem_library.specs.Library.{store_in}
use Rattle.hol_conv.proofs.OneSteps.{converts_all, converts_no, converts_beta, converts_named}
use Rattle.hol_journal.specs.Journal.{theorem_in}
use Rattle.hol_tactic_exprs.specs.declared.conv.Conv.{Conv}
use Rattle.hol_conv.specs.Makes.{StandsIf}
use Rattle.hol_conv.specs.Leaves.{is_made_anew}
use Rattle.hol_conv.proofs.Standing.{said-not}
use Rattle.hol_conv.proofs.over_host.one_step.Goals as goal

pub returns-in-All-clause-converts : goal.returns-in-All-clause-converts
returns-in-All-clause-converts g c depth left =
    let library = c.args.library.now in
    rw c.in-All.is (converts_all library.recorder.theory (store_in library) (g.H.Converters.conversions c.args.hosts.now) c.args.t.now (theorem_in c.refl_known.result) c.refl_known.ensures.joins depth left)

pub returns-in-No-clause-converts : goal.returns-in-No-clause-converts
returns-in-No-clause-converts g c depth left =
    let library = c.args.library.now in
    rw c.in-No.is (converts_no library.recorder.theory (store_in library) (g.H.Converters.conversions c.args.hosts.now) c.args.t.now depth left)

pub returns-in-Beta-clause-converts : goal.returns-in-Beta-clause-converts
returns-in-Beta-clause-converts g c depth left =
    let library = c.args.library.now in
    rw c.in-Beta.is
    (converts_beta library.recorder.theory (store_in library) (g.H.Converters.conversions c.args.hosts.now) c.args.t.now (theorem_in c.beta_conv.result) c.beta_conv.ensures.answers depth left)

pub returns-in-Rewr-clause-converts : goal.returns-in-Rewr-clause-converts
returns-in-Rewr-clause-converts g c depth left =
    let library = c.args.library.now in
    rw (c.in-Rewr.is, ← c.deref.ensures)
    (converts_named library.recorder.theory (store_in library) (g.H.Converters.conversions c.args.hosts.now) c.args.t.now _ (theorem_in c.rewritten.result) c.rewritten.ensures.rewrites depth left)

pub returns-in-Host-clause-converts : goal.returns-in-Host-clause-converts
returns-in-Host-clause-converts g c depth left =
    rw (c.in-Host.is, ← c.deref-in-Host.ensures) (c.host_conv.ensures.converts depth left)

pub returns-in-All-clause-stands : goal.returns-in-All-clause-stands
returns-in-All-clause-stands g c said = c.refl_known.ensures.stands

pub returns-in-Beta-clause-stands : goal.returns-in-Beta-clause-stands
returns-in-Beta-clause-stands g c said = c.beta_conv.ensures.stands

pub returns-in-Rewr-clause-stands : goal.returns-in-Rewr-clause-stands
returns-in-Rewr-clause-stands g c said = c.rewritten.ensures.stands

pub returns-in-Host-clause-stands : goal.returns-in-Host-clause-stands
returns-in-Host-clause-stands g c =
    let theory = c.args.library.now.recorder.theory in
    subst (λ (leaf : Conv). StandsIf (is_made_anew leaf) theory c.host_conv.result) (sym c.in-Host.is) (said-not theory c.host_conv.result)
