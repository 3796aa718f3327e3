use Rattle.std.proofs.Common.{sym, ap, ◌∙◌, Some, refl}
use Rattle.std.specs.Prelude.{nat_eq}
use Rattle.std.proofs.lemmas.Bool.{eqb-true, eq-eqb}
use Rattle.hol_check_terms.proofs.TableLemmas.{put_by_insert}
use Rattle.hol_check_rules.proofs.KnownGrowth.{knows-type}
use Rattle.hol_check_rules.proofs.known.add_type.Goals as goal

pub returns-clause-added : goal.returns-clause-added
returns-clause-added c = λ table entries within knows.
    let stored = c.in_ok-insert_full.ensures.stored in
    knows-type table c.args.known.now.constants.entries c.args.known.now.declared.keys c.insert_full.new.self.keys entries c.args.name within
    (put_by_insert nat_eq c.args.name c.args.known.now.declared.keys c.insert_full.new.self.keys c.in_ok-insert_full.ensures.keys (eq-eqb c.args.name c.args.name refl))
    (c.in_ok-insert_full.field-0.0, stored.1 ∙ ap Some (sym (eqb-true c.args.name stored.0 stored.2))) knows
