use Rattle.std.proofs.Common.{ap, subst}
use Rattle.hol_check_changes.specs.Change.{IsMeant}
use Rattle.hol_check_changes.proofs.LeafLemmas.{keeps_types, type-kept, instance-work, instance-answers}
use Rattle.hol_check_changes.proofs.leaves.change_type.Goals as goal

pub instantiate_type-requires-clause-work : goal.instantiate_type-requires-clause-work
instantiate_type-requires-clause-work c =
    let work = c.requires.work in
    instance-work c.args.terms.now c.in-Instantiate.pairs.now c.args.types.now.entries work.meaning (subst (λ x. IsMeant c.args.terms.now x work.meaning) c.in-Instantiate.is work.held.meant)
    work.held.known_types

pub returns-in-Instantiate-clause-changed : goal.returns-in-Instantiate-clause-changed
returns-in-Instantiate-clause-changed c = λ meaning held.
    instance-answers c.args.terms.now c.instantiate_type.new.terms c.args.change.now c.in-Instantiate.pairs.now c.args.types.now.entries c.instantiate_type.new.types.entries meaning _
    c.instantiate_type.result c.instantiate_type.ensures.grows held
    (subst (λ x. IsMeant c.args.terms.now x meaning) c.in-Instantiate.is held.meant) c.instantiate_type.ensures.changed

pub returns-in-Close-clause-changed : goal.returns-in-Close-clause-changed
returns-in-Close-clause-changed c = λ meaning held. type-kept c.args.terms.now c.args.change.now (ap keeps_types c.in-Close.is) c.args.types.now.entries meaning c.args.ty c.requires.ty held

pub returns-in-Fill-clause-changed : goal.returns-in-Fill-clause-changed
returns-in-Fill-clause-changed c = λ meaning held. type-kept c.args.terms.now c.args.change.now (ap keeps_types c.in-Fill.is) c.args.types.now.entries meaning c.args.ty c.requires.ty held

pub returns-in-Put-clause-changed : goal.returns-in-Put-clause-changed
returns-in-Put-clause-changed c = λ meaning held. type-kept c.args.terms.now c.args.change.now (ap keeps_types c.in-Put.is) c.args.types.now.entries meaning c.args.ty c.requires.ty held
