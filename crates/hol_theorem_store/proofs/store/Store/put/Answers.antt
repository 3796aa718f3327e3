use Rattle.std.proofs.Common.{arith, refl}
use Rattle.std.proofs.lemmas.Map.Text.{text_keys}
use Rattle.hol_theorem_store.specs.Stored.{StoresTheorem}
use Rattle.hol_theorem_store.specs.Store.{stored_of}
use Rattle.hol_theorem_store.proofs.StoreLemmas.{stored-made}
use Rattle.hol_theorem_store.proofs.store.Store.put.Goals as goal

pub returns-in-Ok-insert-clause-stored : goal.returns-in-Ok-insert-clause-stored
returns-in-Ok-insert-clause-stored c = record { theorems = λ other. grind (arith, text_keys); lemmas = refl }

pub returns-in-Ok-insert-clause-made : goal.returns-in-Ok-insert-clause-made
returns-in-Ok-insert-clause-made c = λ journal is made.
    let stores : StoresTheorem (stored_of c.args.self.now) (stored_of (record { theorems = c.insert.new.self; lemmas = c.args.self.now.lemmas })) c.args.name.now c.args.theorem =
    record { theorems = λ other. grind (arith, text_keys); lemmas = refl } in
    stored-made journal (stored_of c.args.self.now) (stored_of (record { theorems = c.insert.new.self; lemmas = c.args.self.now.lemmas })) c.args.name.now c.args.theorem stores is made
