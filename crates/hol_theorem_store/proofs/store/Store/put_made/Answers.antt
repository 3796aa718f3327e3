use Rattle.std.proofs.Common.{arith, refl}
use Rattle.std.specs.Prelude.{string_bytes}
use Rattle.std.proofs.lemmas.Map.Text.{text_keys}
use Rattle.hol_theorem_store.specs.Stored.{StoresTheorem}
use Rattle.hol_theorem_store.specs.Store.{stored_of}
use Rattle.hol_theorem_store.proofs.StoreLemmas.{stored-made}
use Rattle.hol_theorem_store.proofs.store.Store.put_made.Goals as goal

pub returns-clause-stored : goal.returns-clause-stored
returns-clause-stored c = record { theorems = λ other. grind (arith, text_keys); lemmas = refl }

pub returns-clause-made : goal.returns-clause-made
returns-clause-made c = λ journal is made.
    let stores : StoresTheorem (stored_of c.args.self.now) (stored_of (record { theorems = c.insert.new.self; lemmas = c.args.self.now.lemmas })) (string_bytes c.args.name) c.args.theorem =
    record { theorems = λ other. grind (arith, text_keys); lemmas = refl } in
    stored-made journal (stored_of c.args.self.now) (stored_of (record { theorems = c.insert.new.self; lemmas = c.args.self.now.lemmas })) (string_bytes c.args.name) c.args.theorem stores is made
