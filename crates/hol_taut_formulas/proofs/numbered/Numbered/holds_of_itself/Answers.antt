use Rattle.hol_taut_formulas.proofs.PartsLemmas.{part-there, true-whole}
use Rattle.hol_taut_formulas.proofs.numbered.Numbered.holds_of_itself.Goals as goal

pub returns-in-Some : goal.returns-in-Some
returns-in-Some c = λ holds row.
    true-whole c.args.self.now c.in-Some.part.now row
    (part-there c.as_slice.result.now c.args.self.now.parts.keys c.args.self.now.whole c.in-Some.part.now c.as_slice.ensures.keys c.in-Some.ensures.lookup.0 c.in-Some.ensures.lookup.1)
    (c.is_reflexive.ensures holds)
