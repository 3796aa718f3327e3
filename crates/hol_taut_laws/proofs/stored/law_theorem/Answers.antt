use Rattle.std.proofs.Common.{◌≡◌, ℕ, length, refl, subst}
use Rattle.std.specs.Prelude.{get_or}
use Rattle.std.proofs.lemmas.Option.{slice_get_read}
use Rattle.hol_taut_laws.specs.LawTheorems.{place}
use Rattle.hol_taut_laws.proofs.LawLemmas.{law-is, law-within}
use Rattle.hol_taut_laws.proofs.stored.law_theorem.Goals as goal

pub returns-clause-theorem : goal.returns-clause-theorem
returns-clause-theorem c =
    let all = c.args.laws.now.theorems.items in
    let made = c.index.result.now in
    let read = subst (λ (n : ℕ). made ≡ get_or all n made) c.place_of.ensures c.index.ensures in
    law-is all c.args.law made c.requires.theorems_are (slice_get_read all (length all) (place c.args.law) made refl (law-within all c.args.law c.requires.theorems_are) read)
