use Rattle.std.proofs.lemmas.Result.{err_from_is_err_and}
use Rattle.hol_conv.specs.Converted.{same_theorem}
use Rattle.hol_conv.proofs.Leading.{front-leads, leads-up-same}
use Rattle.hol_conv.proofs.Chaining.{ends-by, last-made, joined-on, joined-off, joins-as}
use Rattle.hol_conv.proofs.chain.ended.Goals as goal

pub itself-requires-clause-made : goal.itself-requires-clause-made
itself-requires-clause-made c = (last-made c.args.library.now c.pop.new.self.items c.in-Some.theorem c.requires.chain.made c.in-Some.ensures.items).1

pub itself-requires-clause-stands : goal.itself-requires-clause-stands
itself-requires-clause-stands c = (ends-by c.pop.new.self.items c.in-Some.theorem (c.requires.chain.ends c.requires.stands) c.in-Some.ensures.items).0

pub joined-requires-clause-theorems : goal.joined-requires-clause-theorems
joined-requires-clause-theorems c = (last-made c.args.library.now c.pop.new.self.items c.in-Some.theorem c.requires.chain.made c.in-Some.ensures.items).0

pub joined-requires-clause-last : goal.joined-requires-clause-last
joined-requires-clause-last c = c.in_ok-last-in-Some.ensures.makes.made

pub joined-requires-clause-lead : goal.joined-requires-clause-lead
joined-requires-clause-lead c =
    let theory = c.args.library.now.recorder.theory in
    let ends = ends-by c.pop.new.self.items c.in-Some.theorem (c.requires.chain.ends c.requires.stands) c.in-Some.ensures.items in
    front-leads theory c.pop.new.self.items c.in-Some.theorem (leads-up-same theory c.args.chain.current c.requires.chain.lead) c.in-Some.ensures.items
    (c.in_ok-last-in-Some.ensures.in_front c.args.chain.current ends.1)

pub returns-clause-joins : goal.returns-clause-joins
returns-clause-joins c =
    let theory = c.args.library.now.recorder.theory in
    let ends = ends-by c.pop.new.self.items c.in-Some.theorem (c.requires.chain.ends c.requires.stands) c.in-Some.ensures.items in
    joins-as (joined-on theory c.args.chain.theorems.items c.pop.new.self.items c.in-Some.theorem (same_theorem theory c.args.chain.current) c.in_ok-last-in-Some.last.theorem c.in-Some.ensures.items
    (c.in_ok-last-in-Some.ensures.in_front c.args.chain.current ends.1)) c.joined.ensures.joins

pub returns-clause-stands : goal.returns-clause-stands
returns-clause-stands c = c.joined.ensures.stands c.in_ok-last-in-Some.ensures.stands

pub returns-in_err-last-in-Some-clause-joins : goal.returns-in_err-last-in-Some-clause-joins
returns-in_err-last-in-Some-clause-joins c =
    let p = err_from_is_err_and c.from_residual.result c.from_residual.ensures.1 in
    let theory = c.args.library.now.recorder.theory in
    let ends = ends-by c.pop.new.self.items c.in-Some.theorem (c.requires.chain.ends c.requires.stands) c.in-Some.ensures.items in
    rw (p.1, p.2)
    (joined-off theory c.args.chain.theorems.items c.pop.new.self.items c.in-Some.theorem (same_theorem theory c.args.chain.current) _ c.in-Some.ensures.items
    (c.in_err-last-in-Some.ensures.in_front c.args.chain.current ends.1))
