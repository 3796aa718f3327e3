use Rattle.std.proofs.Common.{rules, sym, subst}
use Rattle.hol_journal.proofs.GrowthLemmas.{journals-grow}
use Rattle.hol_prelude_derivations.specs.Derivations.{AreMade}
use Rattle.hol_prelude_derivations.proofs.DerivationLemmas.{one_more_made}
use Rattle.hol_prelude_derivations.proofs.making.+make_all.Goals as goal

pub make_all-requires : goal.make_all-requires
make_all-requires t c =
    let are = one_more_made c.args.recorder.now c.make.new.recorder c.args.earlier.items c.in_ok-theorem.theorem c.make.ensures.grown c.requires c.in_ok-theorem.ensures.made in
    (search rules, subst (AreMade c.make.new.recorder) (sym c.in_ok-push.ensures.items) are)

pub returns-clause-grown : goal.returns-clause-grown
returns-clause-grown t c = journals-grow.twice c.args.recorder.now c.make.new.recorder c.make_all.new.recorder c.make.ensures.grown c.make_all.ensures.grown
