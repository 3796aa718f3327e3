use Rattle.std.proofs.Common.{◌∷◌, sym, subst}
use Rattle.hol_check_rules.specs.Known.{Knows}
use Rattle.hol_check_rules.proofs.KnownGrowth.{knows-constant}
use Rattle.hol_check_rules.proofs.known.add_constant.Goals as goal

pub returns-clause-added : goal.returns-clause-added
returns-clause-added c = λ table entries entry gives knows.
    subst (λ l. Knows table l c.args.known.now.declared.keys (entry ∷ entries)) (sym c.in_ok-insert.ensures.entries)
    (knows-constant table c.args.known.now.constants.entries c.args.known.now.declared.keys entries entry c.args.name c.args.ty gives knows)
