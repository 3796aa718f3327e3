use Rattle.std.proofs.Common.{rules}
use Rattle.hol_theorem_store.specs.Store.{stored_of}
use Rattle.hol_theorem_store.proofs.StoreLemmas.{found-made}
use Rattle.hol_theorem_store.proofs.store.Store.get.Goals as goal

pub returns-clause-made : goal.returns-clause-made
returns-clause-made c = λ journal is. found-made journal (stored_of c.args.self.now) c.args.name.now c.get.result (search rules) is
