use Rattle.hol_kernel.proofs.KnownLemmas.{known_where_none}
use Rattle.hol_kernel.proofs.theory.Theory.beta.Goals as goal

pub beta_known-requires : goal.beta_known-requires
beta_known-requires c = known_where_none c.args.self.now c.args.term.now (cc (c.first_unknown.ensures))
