use Rattle.hol_kernel.proofs.KnownLemmas.{known_where_none}
use Rattle.hol_kernel.proofs.theory.Theory.refl.Goals as goal

pub refl_known-requires : goal.refl_known-requires
refl_known-requires c = known_where_none c.args.self.now c.args.term.now (cc (c.first_unknown.ensures))
