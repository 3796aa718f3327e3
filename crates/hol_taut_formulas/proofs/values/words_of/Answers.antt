use Rattle.std.proofs.Common.{arith}
use Rattle.hol_taut_formulas.specs.declared.numbered.Part.TheVariants.{Atom}
use Rattle.hol_taut_formulas.specs.Words.{value_in_row}
use Rattle.hol_taut_formulas.proofs.WordLemmas.{one-more}
use Rattle.hol_taut_formulas.proofs.values.words_of.Goals as goal

pub loop-part-preserved : goal.loop-part-preserved
loop-part-preserved c = λ row within.
    one-more (value_in_row c.args.columns.now row) row c.args.parts.now c.loop-part.part-index (Atom 0) c.loop-part.words.items c.deref.result.now c.push.new.self.items
    c.word_of-word.result (omega arith) c.deref.ensures.value c.in_ok-push.ensures.items (c.word_of-word.ensures row within) (c.loop-part.invariant row within)
