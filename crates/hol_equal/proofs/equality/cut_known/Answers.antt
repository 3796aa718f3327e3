use Rattle.std.proofs.Common.{◌++◌}
use Rattle.hol_model.specs.Terms.HolType.{bool_type}
use Rattle.hol_model.specs.Terms.Measures.{nameless_within_limits}
use Rattle.hol_model.specs.Logic.Derivable.{without, nameless_equation}
use Rattle.hol_journal.proofs.GrowthLemmas.{journals-grow}
use Rattle.hol_journal.proofs.Showing.{formula_of}
use Rattle.hol_equal.proofs.StepLemmas.{equation-fits}
use Rattle.hol_equal.proofs.CutLemmas.{cut-derives, right-names}
use Rattle.hol_equal.proofs.equality.cut_known.Goals as goal

pub eq_mp_known-requires-clause-second : goal.eq_mp_known-requires-clause-second
eq_mp_known-requires-clause-second c = journals-grow.stays c.args.recorder.now c.deduct_antisym_known.new.recorder c.args.first.now c.in_ok-equivalence.ensures.continues.grown c.requires.first

pub eq_mp_known-requires-clause-fits : goal.eq_mp_known-requires-clause-fits
eq_mp_known-requires-clause-fits c =
    equation-fits c.in_ok-equivalence.equivalence.theorem c.args.first.now.theorem c.args.second.now.theorem.conclusion
    (formula_of c.args.first.now.theorem c.theorems_hold.ensures.first) c.in_ok-equivalence.ensures.names

pub returns-clause-names : goal.returns-clause-names
returns-clause-names c =
    right-names c.eq_mp_known.result c.in_ok-equivalence.equivalence.theorem.conclusion c.args.first.now.theorem.conclusion c.args.second.now.theorem.conclusion
    (formula_of c.args.first.now.theorem c.theorems_hold.ensures.first) c.in_ok-equivalence.ensures.names c.eq_mp_known.ensures.names

pub returns-clause-derives : goal.returns-clause-derives
returns-clause-derives c h k p q one two =
    cut-derives (nameless_within_limits (nameless_equation bool_type p q)) c.eq_mp_known.result h k p q
    (c.eq_mp_known.ensures.gives (without q h ++ without p k) h p q (c.in_ok-equivalence.ensures.derives h k p q one two) one)
