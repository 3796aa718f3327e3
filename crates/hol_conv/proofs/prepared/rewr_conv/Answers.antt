use Rattle.hol_equal.proofs.StepLemmas.{passed_on}
use Rattle.hol_conv.proofs.StoredRules.{refused-by-name, makes-later}
use Rattle.hol_conv.proofs.Standing.{stands-later}
use Rattle.hol_conv.proofs.prepared.rewr_conv.Goals as goal

pub returns-clause-makes : goal.returns-clause-makes
returns-clause-makes c = makes-later c.rules_named.ensures.library c.rules_named.ensures.continued c.prepared_rewr_conv.ensures.makes

pub returns-clause-stands : goal.returns-clause-stands
returns-clause-stands c = stands-later c.prepared_rewr_conv.result c.rules_named.ensures.continued c.prepared_rewr_conv.ensures.stands

pub returns-in_err-named-clause-rewrites : goal.returns-in_err-named-clause-rewrites
returns-in_err-named-clause-rewrites c =
    rw (passed_on c.from_residual.result c.in_err-named.field-0.0 c.from_residual.ensures.1) (refused-by-name c.in_err-named.ensures.err)
